-- What a metrics of either family answers is in range. Assumes nothing.
use Rattle.metrics.specs.Advance.{Advances}
use Rattle.metrics.specs.Scaling.{table_some, table_small}
use Rattle.scales.specs.declared.Scale.{Scale}
use Rattle.scales.specs.declared.Scale.TheVariants.{Cell, Table}
use Rattle.scales.specs.Scales.{scale_advances}

pub scale_ranges : (s : Scale) → Advances (scale_advances s)
scale_ranges (Cell m) = record { least = λ b _. m.least; most = λ b _. m.most }
scale_ranges (Table t) = record {
  least = λ b _. table_some t.widths t.size b;
  most = λ b _. table_small t.widths t.size b t.wide t.large;
}
