use Rattle.std.proofs.lemmas.Iterator.Consumers.{count_from_yields_List}
use Rattle.lexer.specs.Names.{line_of}
use Rattle.lexer.proofs.Naming.{names_come}
use Rattle.lexer.proofs.names.Names.count.Goals as goal

pub returns : goal.returns
returns c = count_from_yields_List c.iter.result _ c.count.ensures.ran (names_come c.iter.result (line_of c.args.self.now) c.iter.ensures.source c.iter.ensures.count)
