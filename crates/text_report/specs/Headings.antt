-- The metric line, with which a file begins. Assumes nothing.
--     or_unfit o       the advances o, else the refusal that there is no such metrics
--     advances_of l    the advances of the metrics that the metric line l asks for
--     advances_in r    the advances of the metrics that the code holds as r
use Rattle.std.specs.Prelude.{ℕ, Some, None, Ok, Err, Option, Result}
use Rattle.lexer.specs.Lines.{FileLine}
use Rattle.scales.specs.Headings.{metric_form}
use Rattle.scales.specs.Scales.{family_advances, scale_advances}
use Rattle.scales.specs.declared.Scale.{Scale}
use Rattle.text.specs.declared.faults.TextFault.TheVariants.{Metrics}
use Rattle.text_report.specs.Onward.{onward}
use Rattle.text_report.specs.declared.faults.FileFault.{FileFault}
use Rattle.text_report.specs.declared.faults.FileFault.TheVariants.{Form, Measuring}

abbrev pub or_unfit : Option (ℕ → ℕ) → Result (ℕ → ℕ) FileFault
or_unfit (Some adv) = Ok adv
or_unfit None = Err (Measuring Metrics)

abbrev pub advances_of : FileLine → Result (ℕ → ℕ) FileFault
advances_of l = onward Form (metric_form l) (λ m. or_unfit (family_advances m.family m.number))

abbrev pub advances_in : Result Scale FileFault → Result (ℕ → ℕ) FileFault
advances_in (Ok s) = Ok (scale_advances s)
advances_in (Err f) = Err f
