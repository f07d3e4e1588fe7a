use Rattle.std.proofs.Common.{Some, sym, ap, ◌∙◌}
use Rattle.std.specs.Option.{option_copied}
use Rattle.invocation_vm.specs.Making.{version_in}
use Rattle.invocation_vm.proofs.versions.version_in.Goals as goal

pub returns-clause-does : goal.returns-clause-does
returns-clause-does g c = c.version_named.ensures.does ∙ sym (ap version_in (c.in-Ok.ensures ∙ ap (λ o. Some (option_copied o)) c.in-Some.is))
