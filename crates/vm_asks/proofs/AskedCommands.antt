-- A step asks for the command that its function makes.
use Rattle.std.proofs.Common.{◌≡◌, ap, sym, ◌∙◌}
use Rattle.journal_protocol.specs.Version.{Version}
use Rattle.vm_types.specs.declared.steps.Step.{Step}
use Rattle.vm_asks.specs.declared.asks.AnswerKind.{AnswerKind}
use Rattle.vm_asks.specs.declared.asks.Ask.TheVariants as ask
use Rattle.vm_asks.specs.declared.command.Command.{Command}
use Rattle.vm_asks.specs.Asks.{ask_of}

pub asks_one : (version : Version) (s t : Step) (c d : Command) → c ≡ d → s ≡ t → ask_of version t ≡ ask.Command d → ask.Command c ≡ ask_of version s
asks_one version s t c d made is asked = ap ask.Command made ∙ sym asked ∙ ap (ask_of version) (sym is)

pub asks_two : (version : Version) (s t : Step) (kind : AnswerKind) (a b c d : Command)
    → a ≡ c → b ≡ d → s ≡ t → ask_of version t ≡ ask.Commands kind c d → ask.Commands kind a b ≡ ask_of version s
asks_two version s t kind a b c d first second is asked =
    ap (λ x. ask.Commands kind x b) first ∙ ap (ask.Commands kind c) second ∙ sym asked ∙ ap (ask_of version) (sym is)
