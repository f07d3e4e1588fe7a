use Rattle.lines.proofs.Determined.{pieces_determined, words_determined}
use Rattle.lines.proofs.law.is_cut_one_way.Goals as goal

pub returns-clause-pieces : goal.returns-clause-pieces
returns-clause-pieces c = λ some others. pieces_determined c.args._separator c.args._text.now some others

pub returns-clause-words : goal.returns-clause-words
returns-clause-words c = λ some others. words_determined c.args._text.now some others
