use Rattle.std.proofs.Common.{length, ap, arith}
use Rattle.lexer.proofs.Counts.{length_file_lines}
use Rattle.sheet_file.proofs.cursors.Cursor.new.Goals as goal

pub invariant_of-result : goal.invariant_of-result
invariant_of-result c = record { few = omega (arith, length_file_lines c.args.file.now, ap length c.new.ensures) }
