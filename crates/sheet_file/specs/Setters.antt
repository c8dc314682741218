-- What a setter of paragraphs holds, in the words of the plan. Assumes nothing.
--     setting_of s    the setting that the setter s stands for
--     Holds s t       t is over the same sheet as s, and its unused memory kept its content; t reads items against the same, with
--                     as much memory for a text
use Rattle.std.specs.Prelude.{◌≡◌, length}
use Rattle.items.specs.Spares.{Spares}
use Rattle.sheet_file.specs.declared.setters.Setter.{Setter}
use Rattle.sheet_file.specs.Desks.{setting}
use Rattle.sheet_file.specs.Plans.{Setting}

abbrev pub setting_of : Setter → Setting
setting_of s = setting s.desk (length s.words.now) (length s.runs.now)

pub record Holds (s t : Setter) : Type 0 where
  pub named : t.sheet.ghost_name ≡ s.sheet.ghost_name
  pub spares : Spares s.sheet.now t.sheet.now
  pub desk : t.desk ≡ s.desk
  pub words : length t.words.now ≡ length s.words.now
  pub runs : length t.runs.now ≡ length s.runs.now
