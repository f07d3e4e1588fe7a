-- Words that report no error.
use Rattle.std.proofs.Common.{get_or, ◌≡◌, ◌≢◌, ℕ, false, List, Option, Some, None, codes, drop, sym, subst, ap, ◌∙◌, arith}
use Rattle.std.specs.Borrow.{Bor}
use Rattle.plain.specs.declared.fault.Fault.{Fault}
use Rattle.plain.specs.declared.fault.Fault.TheVariants.{Malformed}
use Rattle.journal_protocol.specs.ErrorBehavior.{ErrorBehavior}
use Rattle.journal_protocol.specs.ErrorBehavior.TheVariants as behavior
use Rattle.vm_types.specs.declared.command_type.CommandRelationship.{CommandRelationship}
use Rattle.vm_types.specs.declared.command_type.CommandRelationship.TheVariants as relationship
use Rattle.lines.specs.Atoms.{IsText}
use Rattle.lines.specs.Readings.{Blames}
use Rattle.lines.specs.Fields.{IsOptional, are_named, text_behind, texts_named}
use Rattle.line_parts.specs.Reports.{AreDetails, IsBehavior, IsCommandText, IsCommandAt, IsCommandName, IsError, IsRelated, IsRelatedAlone, IsReport, error_names}
use Rattle.lines.specs.Words.{IsNumberOf, text_at}
use Rattle.lines.proofs.Naming.{begins_so, otherwise, same_text}

pub no_behavior : (text : List ℕ) (fault : Fault) → text ≢ codes "retry" → text ≢ codes "pause" → text ≢ codes "fail" → Blames (IsBehavior text) fault
no_behavior text fault r p f = record { nothing = λ bad it is. go it is }
  where
    go : (it : ErrorBehavior) → IsBehavior text it → ⊥
    go behavior.Retry is = r is
    go behavior.Pause is = p is
    go behavior.Fail is = f is

pub name_blamed : (text : List ℕ) (fault : Fault) → text ≢ codes "-" → Blames (IsText text) fault → Blames (IsCommandName text) fault
unfolding IsCommandName
name_blamed text fault other blames = record { nothing = λ bad name is. go bad name is }
  where
    go : fault ≡ Malformed → (name : Option (List ℕ)) → IsCommandName text name → ⊥
    go bad None is = other is
    go bad (Some name) is = blames.nothing bad name is

-- ---- the command that an error relates to

pub next_blamed : (text command : List ℕ) (fault : Fault) → text_behind (codes "next") text ≡ Some command → Blames (IsCommandText command) fault → Blames (IsRelated text) fault
next_blamed text command fault e blames = record { nothing = λ bad it is. go bad it is }
  where
    go : fault ≡ Malformed → (it : CommandRelationship) → IsRelated text it → ⊥
    go bad relationship.Last is = otherwise 110 108 (codes "ext") text command e (ap (λ t. get_or t 0 0) is) (omega arith)
    go bad (relationship.Next ty name) (other, at, is) = blames.nothing bad (ty, name) (subst (λ t. IsCommandText t (ty, name)) (same_text other command (sym at ∙ e)) is)
    go bad (relationship.Specific index ty name) (other, at, is) = otherwise 110 97 (codes "ext") text command e (begins_so 97 (codes "t") text other at) (omega arith)

pub at_blamed : (text command : List ℕ) (fault : Fault) → text_behind (codes "at") text ≡ Some command → Blames (IsCommandAt command) fault → Blames (IsRelated text) fault
at_blamed text command fault e blames = record { nothing = λ bad it is. go bad it is }
  where
    go : fault ≡ Malformed → (it : CommandRelationship) → IsRelated text it → ⊥
    go bad relationship.Last is = otherwise 97 108 (codes "t") text command e (ap (λ t. get_or t 0 0) is) (omega arith)
    go bad (relationship.Next ty name) (other, at, is) = otherwise 97 110 (codes "t") text command e (begins_so 110 (codes "ext") text other at) (omega arith)
    go bad (relationship.Specific index ty name) (other, at, is) = blames.nothing bad (index, ty, name) (subst (λ t. IsCommandAt t (index, ty, name)) (same_text other command (sym at ∙ e)) is)

pub unrelated_blamed : (text : List ℕ) (fault : Fault) → text ≢ codes "last" → text_behind (codes "next") text ≡ None → text_behind (codes "at") text ≡ None → Blames (IsRelated text) fault
unrelated_blamed text fault l n a = record { nothing = λ bad it is. go it is }
  where
    go : (it : CommandRelationship) → IsRelated text it → ⊥
    go relationship.Last is = l is
    go (relationship.Next ty name) (other, at, is) = absurd (cc (sym n ∙ at))
    go (relationship.Specific index ty name) (other, at, is) = absurd (cc (sym a ∙ at))

-- ---- errors

pub code_blamed : (words : List (Bor (List ℕ))) (fault : Fault) → Blames (IsNumberOf 16 (text_at 0 words)) fault → Blames (IsError words) fault
code_blamed words fault blames = record { nothing = λ bad error is. blames.nothing bad error.code is.first.0 }

pub message_blamed : (words : List (Bor (List ℕ))) (fault : Fault) → Blames (IsText (text_at 1 words)) fault → Blames (IsError words) fault
message_blamed words fault blames = record { nothing = λ bad error is. blames.nothing bad error.message is.first.1 }

pub details_blamed : (words : List (Bor (List ℕ))) (fault : Fault) → Blames (AreDetails (drop 2 words)) fault → Blames (IsError words) fault
details_blamed words fault blames = record { nothing = λ bad error is. blames.nothing bad error is.details }

pub error_blamed : (words : List (Bor (List ℕ))) (fault : Fault) → Blames (IsError words) fault → Blames (IsReport words) fault
error_blamed words fault blames = record { nothing = λ bad report is. blames.nothing bad report.0 is.error }

pub options_blamed : (options : List (Bor (List ℕ))) (fault : Fault) → are_named error_names options ≡ false → Blames (IsRelatedAlone options) fault
options_blamed options fault other = record { nothing = λ bad related are. absurd (cc (sym other ∙ are.1)) }

pub related_blamed : (options : List (Bor (List ℕ))) (fault : Fault) → Blames (IsOptional IsRelated (texts_named (codes "rel=") options)) fault → Blames (IsRelatedAlone options) fault
related_blamed options fault blames = record { nothing = λ bad related are. blames.nothing bad related are.0 }

pub alone_blamed : (words options : List (Bor (List ℕ))) (fault : Fault) → options ≡ drop 2 words → Blames (IsRelatedAlone options) fault → Blames (IsReport words) fault
alone_blamed words options fault e blames = record { nothing = λ bad report is. blames.nothing bad report.1 (subst (λ ws. IsRelatedAlone ws report.1) (sym e) (is.related, is.only)) }
