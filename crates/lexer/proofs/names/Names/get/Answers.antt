use Rattle.std.proofs.Common.{arith}
use Rattle.lexer.specs.Names.{line_of}
use Rattle.lexer.proofs.Naming.{few, nth_name}
use Rattle.lexer.proofs.names.Names.get.Goals as goal

pub returns-then-number-ge32 : goal.returns-then-number-ge32
returns-then-number-ge32 c = omega (arith, few (line_of c.args.self.now))

pub returns : goal.returns
returns c = nth_name (line_of c.args.self.now) c.args.number c.nth_part.result c.if-number-ge32.false c.nth_part.ensures
