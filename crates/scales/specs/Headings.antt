-- The line that asks for a metrics, field by field. Assumes nothing.
--     metric_form l   what a line `metric FAMILY NUMBER` says: the family, and the advance of its cell or the size of its table
use Rattle.std.specs.Prelude.{codes, Result}
use Rattle.lexer.specs.declared.faults.Fault.{Fault}
use Rattle.lexer.specs.Forms.{word, a_number, take, finish}
use Rattle.lexer.specs.Lines.{FileLine}
use Rattle.scales.specs.declared.headings.MetricLine.{MetricLine}
use Rattle.scales.specs.Names.{a_family}

abbrev pub metric_form : FileLine → Result MetricLine Fault
metric_form l =
    take (word (codes "metric")) l.bytes 0
    (λ _ p. take a_family l.bytes p
    (λ f q. take a_number l.bytes q
    (λ n r. finish l.ended l.bytes r (record { family = f; number = n }))))
