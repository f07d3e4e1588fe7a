-- Lines that call another handler, made of their parts.
use Rattle.std.proofs.Common.{◌≡◌, ◌∷◌, ℕ, true, false, List, Option, drop, codes, sym, subst, refl, ◌∙◌}
use Rattle.std.specs.Borrow.{Bor}
use Rattle.std.specs.declared.time.Duration.{Duration}
use Rattle.plain.specs.declared.fault.Fault.{Fault}
use Rattle.lines.specs.Atoms.{IsAtom, IsText}
use Rattle.lines.specs.Readings.{Blames}
use Rattle.vm_types.specs.declared.options.PayloadOptions.{PayloadOptions}
use Rattle.vm_types.specs.declared.steps.Step.TheVariants as step
use Rattle.vm_types.specs.declared.values.Target.{Target}
use Rattle.vm_types.specs.declared.call.Call.TheVariants as call
use Rattle.call_lines.specs.declared.verb.Verb.TheVariants as verb
use Rattle.lines.specs.Fields.{IsOptional, are_named, texts_named}
use Rattle.line_parts.specs.Targets.{AreCallOptions, AreSendOptions, HasCallOptions, call_names}
use Rattle.line_parts.specs.Values.{HasFlag, words_without}
use Rattle.lines.specs.Durations.{IsTime}
use Rattle.call_lines.specs.Verbs.{HasCallee, IsCall, IsDeadlineCall, IsLine, IsSend, NamesTarget}
use Rattle.lines.specs.Words.{text_at}

pub is_call : (words rest : List (Bor (List ℕ))) (service handler input : List ℕ) (target : Target) (name : Option (List ℕ)) (options : PayloadOptions) → HasCallee words (service, handler, input)
    → target.service ≡ service → target.handler ≡ handler → rest ≡ drop 3 words → AreCallOptions rest target name options → IsLine verb.Call words (call.Step (step.Call target input name options))
is_call words rest service handler input target name options callee s h behind named = record {
  first = (target, input, name, options);
  is_first = record {
    callee = rw (s, h) callee;
    options = subst (λ ws. AreCallOptions ws target name options) behind named;
  };
  is = refl;
}

pub is_deadline_call : (words rest : List (Bor (List ℕ))) (service handler input : List ℕ) (target : Target) (until : Duration) (name : Option (List ℕ)) (options : PayloadOptions) → HasCallee words (service, handler, input)
    → target.service ≡ service → target.handler ≡ handler → IsTime (text_at 3 words) until → rest ≡ drop 4 words → AreCallOptions rest target name options → IsLine verb.CallWithDeadline words (call.Step (step.CallWithDeadline target input until name options))
is_deadline_call words rest service handler input target until name options callee s h time behind named = record {
  first = (target, input, until, name, options);
  is_first = record {
    callee = rw (s, h) callee;
    until = time;
    options = subst (λ ws. AreCallOptions ws target name options) behind named;
  };
  is = refl;
}

pub is_send : (words rest others : List (Bor (List ℕ))) (service handler input : List ℕ) (target : Target) (time : Option Duration) (name : Option (List ℕ)) (options : PayloadOptions) → HasCallee words (service, handler, input)
    → target.service ≡ service → target.handler ≡ handler → rest ≡ drop 3 words → others ≡ words_without (codes "unstable") rest → HasFlag (codes "unstable") rest options.unstable_serialization
    → IsOptional IsTime (texts_named (codes "at=") others) time → HasCallOptions others (target, name) → are_named (codes "at=" ∷ call_names) others ≡ true → IsLine verb.Send words (call.Step (step.Send target input time name options))
is_send words rest others service handler input target time name options callee s h behind but flag at has only = record {
  first = (target, input, time, name, options);
  is_first = record {
    callee = rw (s, h) callee;
    options = subst (λ ws. AreSendOptions ws target time name options) behind (record {
      named = subst (λ ws. HasCallOptions ws (target, name)) but has;
      timed = subst (λ ws. IsOptional IsTime (texts_named (codes "at=") ws) time) but at;
      unstable = flag;
      only = subst (λ ws. are_named (codes "at=" ∷ call_names) ws ≡ true) but only;
    });
  };
  is = refl;
}

-- ---- words that call nothing

pub service_blamed : (words : List (Bor (List ℕ))) (fault : Fault) → Blames (IsText (text_at 0 words)) fault → Blames (HasCallee words) fault
service_blamed words fault blames = record { nothing = λ bad callee has. blames.nothing bad callee.0 has.0 }

pub handler_blamed : (words : List (Bor (List ℕ))) (fault : Fault) → Blames (IsText (text_at 1 words)) fault → Blames (HasCallee words) fault
handler_blamed words fault blames = record { nothing = λ bad callee has. blames.nothing bad callee.1 has.1 }

pub input_blamed : (words : List (Bor (List ℕ))) (fault : Fault) → Blames (IsAtom (text_at 2 words)) fault → Blames (HasCallee words) fault
input_blamed words fault blames = record { nothing = λ bad callee has. blames.nothing bad callee.2 has.2 }

pub callee_blamed : (words : List (Bor (List ℕ))) (fault : Fault) → Blames (HasCallee words) fault → Blames (IsCall words) fault
callee_blamed words fault blames = record { nothing = λ bad call is. blames.nothing bad (call.0.service, call.0.handler, call.1) is.callee }

pub flag_blamed : (words : List (Bor (List ℕ))) (fault : Fault) → Blames (HasFlag (codes "unstable") words) fault → Blames (NamesTarget words) fault
flag_blamed words fault blames = record { nothing = λ bad named is. blames.nothing bad named.2.unstable_serialization is.unstable }

pub others_blamed : (words others : List (Bor (List ℕ))) (fault : Fault) → others ≡ words_without (codes "unstable") words → are_named call_names others ≡ false → Blames (NamesTarget words) fault
others_blamed words others fault but other = record {
  nothing = λ bad named is. absurd (cc (sym other ∙ subst (λ ws. are_named call_names ws ≡ true) (sym but) is.only));
}

pub options_blamed : (words others : List (Bor (List ℕ))) (fault : Fault) → others ≡ words_without (codes "unstable") words → Blames (HasCallOptions others) fault → Blames (NamesTarget words) fault
options_blamed words others fault but blames = record {
  nothing = λ bad named is. blames.nothing bad (named.0, named.1) (subst (λ ws. HasCallOptions ws (named.0, named.1)) (sym but) is.named);
}

pub named_blamed : (words rest : List (Bor (List ℕ))) (fault : Fault) → rest ≡ drop 3 words → Blames (NamesTarget rest) fault → Blames (IsCall words) fault
named_blamed words rest fault behind blames = record {
  nothing = λ bad call is. blames.nothing bad (call.0, call.2, call.3) (subst (λ ws. NamesTarget ws (call.0, call.2, call.3)) (sym behind) is.options);
}

pub deadline_callee_blamed : (words : List (Bor (List ℕ))) (fault : Fault) → Blames (HasCallee words) fault → Blames (IsDeadlineCall words) fault
deadline_callee_blamed words fault blames = record { nothing = λ bad call is. blames.nothing bad (call.0.service, call.0.handler, call.1) is.callee }

pub until_blamed : (words : List (Bor (List ℕ))) (fault : Fault) → Blames (IsTime (text_at 3 words)) fault → Blames (IsDeadlineCall words) fault
until_blamed words fault blames = record { nothing = λ bad call is. blames.nothing bad call.2 is.until }

pub deadline_named_blamed : (words rest : List (Bor (List ℕ))) (fault : Fault) → rest ≡ drop 4 words → Blames (NamesTarget rest) fault → Blames (IsDeadlineCall words) fault
deadline_named_blamed words rest fault behind blames = record {
  nothing = λ bad call is. blames.nothing bad (call.0, call.3, call.4) (subst (λ ws. NamesTarget ws (call.0, call.3, call.4)) (sym behind) is.options);
}

pub send_callee_blamed : (words : List (Bor (List ℕ))) (fault : Fault) → Blames (HasCallee words) fault → Blames (IsSend words) fault
send_callee_blamed words fault blames = record { nothing = λ bad send is. blames.nothing bad (send.0.service, send.0.handler, send.1) is.callee }

pub send_flag_blamed : (words rest : List (Bor (List ℕ))) (fault : Fault) → rest ≡ drop 3 words → Blames (HasFlag (codes "unstable") rest) fault → Blames (IsSend words) fault
send_flag_blamed words rest fault e blames = record {
  nothing = λ bad send is. blames.nothing bad send.4.unstable_serialization (subst (λ ws. HasFlag (codes "unstable") ws send.4.unstable_serialization) (sym e) is.options.unstable);
}

pub send_others_blamed : (words rest others : List (Bor (List ℕ))) (fault : Fault) → rest ≡ drop 3 words → others ≡ words_without (codes "unstable") rest → are_named (codes "at=" ∷ call_names) others ≡ false → Blames (IsSend words) fault
send_others_blamed words rest others fault behind but other = record {
  nothing = λ bad send is.
      absurd (cc (sym other ∙ subst (λ ws. are_named (codes "at=" ∷ call_names) ws ≡ true) (sym but) (subst (λ ws. are_named (codes "at=" ∷ call_names) (words_without (codes "unstable") ws) ≡ true) (sym behind) is.options.only)));
}

pub time_blamed : (words rest others : List (Bor (List ℕ))) (fault : Fault) → rest ≡ drop 3 words → others ≡ words_without (codes "unstable") rest → Blames (IsOptional IsTime (texts_named (codes "at=") others)) fault → Blames (IsSend words) fault
time_blamed words rest others fault behind but blames = record {
  nothing = λ bad send is.
      blames.nothing bad send.2 (subst (λ ws. IsOptional IsTime (texts_named (codes "at=") ws) send.2) (sym but) (subst (λ ws. IsOptional IsTime (texts_named (codes "at=") (words_without (codes "unstable") ws)) send.2) (sym behind) is.options.timed));
}

pub send_options_blamed : (words rest others : List (Bor (List ℕ))) (fault : Fault) → rest ≡ drop 3 words → others ≡ words_without (codes "unstable") rest → Blames (HasCallOptions others) fault → Blames (IsSend words) fault
send_options_blamed words rest others fault behind but blames = record {
  nothing = λ bad send is.
      blames.nothing bad (send.0, send.3) (subst (λ ws. HasCallOptions ws (send.0, send.3)) (sym but) (subst (λ ws. HasCallOptions (words_without (codes "unstable") ws) (send.0, send.3)) (sym behind) is.options.named));
}
