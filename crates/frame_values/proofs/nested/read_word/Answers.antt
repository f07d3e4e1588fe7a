use Rattle.std.proofs.Common.{◌≡◌, ◌<◌, true, length, reverse, refl, arith, rules}
use Rattle.std.proofs.lemmas.Grind.{common_steps}
use Rattle.frame_values.specs.declared.nested.OpenFuture.{OpenFuture}
use Rattle.frame_values.specs.FutureWords.{ends_part}
use Rattle.frame_values.proofs.Reading.{empty_word_denied, word_read}
use Rattle.frame_values.proofs.nested.read_word.Goals as goal

pub returns-then-is_empty-clause-none : goal.returns-then-is_empty-clause-none
returns-then-is_empty-clause-none c =
    let none : length c.first_word.result.0.now ≡ 0 = first_of (search rules, grind (arith, common_steps)) in
    empty_word_denied c.args.current (reverse c.args.open.now.items) c.args.text.now c.first_word.result.0 _ c.first_word.ensures.word none c.requires.blank c.requires.close c.requires.list

pub returns-clause-reads : goal.returns-clause-reads
returns-clause-reads c =
    let p : OpenFuture = record { place = c.args.current.place; words = c.push.new.self; has_list = c.args.current.has_list; nested = c.args.current.nested } in
    let some : 0 < length c.first_word.result.0.now = first_of (search rules, grind (arith, common_steps)) in
    let ends : ends_part c.first_word.result.1.now ≡ true = first_of (search rules, grind (arith, common_steps)) in
    λ nodes placed. word_read c.args.current p c.args.open.now.items c.push-2.new.self.items nodes c.args.text.now c.first_word.result.1.now c.first_word.result.0 c.in_ok-push-2.ensures.items refl c.in_ok-push.ensures.items refl refl
    c.first_word.ensures.word c.first_word.ensures.rest c.first_word.ensures.whole some ends c.requires.blank c.requires.close c.requires.list placed
