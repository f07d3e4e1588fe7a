use Rattle.call_lines.proofs.Asking.{ascii_has_words}
use Rattle.call_lines.proofs.parse.words_of_line.Goals as goal

pub returns-in-Ascii-clause-words : goal.returns-in-Ascii-clause-words
returns-in-Ascii-clause-words c = ascii_has_words c.args.line.now _ (c.in_ok-words_in.ensures.ascii c.in-Ascii.is) c.in_ok-words_in.ensures.words
