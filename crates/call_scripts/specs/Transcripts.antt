-- What a line of the script does, and what is printed for it.
use Rattle.std.specs.Prelude.{◌≡◌, ◌⊎◌, ℕ, List, [], ◌∷◌, ◌++◌, Option}
use Rattle.std.proofs.Common.{Global}
use Rattle.std.specs.Io.KnownBytes.{Appends}
use Rattle.program_runs.specs.Streams.{AppendsSome}
use Rattle.invocation_vm.specs.declared.core_vm.CoreVM.{CoreVM}
use Rattle.call_lines.specs.declared.request.Request.{Request}
use Rattle.vm_types.specs.declared.reply.Reply.{Reply}
use Rattle.call_lines.specs.Lines.{IsRequestLine}
use Rattle.call_lines.specs.Replies.{reply_text}
use Rattle.lines.specs.Text.{AreFirstLines, IsFirstLine}
use Rattle.call_scripts.specs.Performed.{Performed}

-- what the line asks for was done, and the text of its reply is what is printed
pub record Transcribes (alloc : Global) (old new : Option CoreVM)
    (line answer : List ℕ) : Type 0 where
  pub request : Request
  pub reply : Reply
  pub reads : IsRequestLine line request
  pub performed : Performed alloc request old reply new
  pub printed : answer ≡ reply_text reply

-- Out of memory: nothing was done; or what the line asks for was done, and there was no memory for
-- the text of its reply.
abbrev pub IsUnanswered : Global → Option CoreVM → Option CoreVM → List ℕ → Type 0
IsUnanswered alloc old new line = (new ≡ old)
    ⊎ ((request : Request) × (reply : Reply) × IsRequestLine line request
    × Performed alloc request old reply new)

-- the lines are answered one after another, from one VM to the next, and each answer has an end
abbrev pub AreAnswered : Global → List (List ℕ) → Option CoreVM → Option CoreVM → List ℕ → Type 0
AreAnswered alloc [] old new transcript = (new ≡ old) × (transcript ≡ [])
AreAnswered alloc (line ∷ lines) old new transcript =
    (next : Option CoreVM) × (answer : List ℕ) × (others : List ℕ)
    × Transcribes alloc old next line answer × AreAnswered alloc lines next new others
    × (transcript ≡ answer ++ 10 ∷ others)

-- the script's lines are answered, up to this rest
pub record IsTranscript (alloc : Global) (script rest : List ℕ) (old new : Option CoreVM)
    (transcript : List ℕ) : Type 0 where
  pub lines : List (List ℕ)
  pub are_lines : AreFirstLines lines script rest
  pub are_answered : AreAnswered alloc lines old new transcript

-- their transcript is written after what was there before
pub record TranscriptIsWritten (alloc : Global) (script rest : List ℕ) (old new : Option CoreVM)
    (before after : Option (List ℕ)) : Type 0 where
  pub transcript : List ℕ
  pub is_transcript : IsTranscript alloc script rest old new transcript
  pub appended : Appends before after transcript

-- the first line of the rest is answered, and of its answer a beginning is written
pub record IsBegun (alloc : Global) (rest : List ℕ) (old : Option CoreVM)
    (before after : Option (List ℕ)) : Type 0 where
  pub line : List ℕ
  pub behind : List ℕ
  pub is_first : IsFirstLine rest line behind
  pub new : Option CoreVM
  pub answer : List ℕ
  pub is_answer : Transcribes alloc old new line answer
  pub appended : AppendsSome before after (answer ++ 10 ∷ [])
