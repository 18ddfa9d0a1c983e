use Rattle.amcp_text.proofs.Cutting.{told_nothing, told_more, told_line, told_all}
use Rattle.amcp_text.proofs.laws.lines_of_pieces.Goals as goal

pub returns-clause-before : goal.returns-clause-before
returns-clause-before c = told_nothing

pub returns-clause-piece : goal.returns-clause-piece
returns-clause-piece c piece taken bytes lines told = told_more piece told

pub returns-clause-line : goal.returns-clause-line
returns-clause-line c event taken bytes lines told tells = told_line event told tells

pub returns-clause-all : goal.returns-clause-all
returns-clause-all c taken bytes lines told none = told_all told none
