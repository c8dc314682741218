-- What the lines before the paragraphs come to, in the words of the plan. Assumes nothing.
--     ShelfTold k s r t    the next k lines ahead of the cursor s as staircases: r keeps them, and t is past them; or r is the fault
--     body_said b t        what the code holds as b of the paragraphs, which are ahead of the cursor t
--     BodyTold w s r t     the lines ahead of s, for a sheet of the width w, up to the paragraphs: r tells what these are read
--                          against and how many they are, and they are ahead of t; or r is the fault
use Rattle.std.specs.Prelude.{◌≡◌, ℕ, [], Ok, Err, Result}
use Rattle.items.specs.Faults.{Located}
use Rattle.items.specs.declared.shelves.Shelf.{Shelf}
use Rattle.items.specs.Shelves.{kept}
use Rattle.sheet_file.specs.declared.cursors.Cursor.{Cursor}
use Rattle.sheet_file.specs.declared.headings.Body as code
use Rattle.sheet_file.specs.Cursors.{ahead, number}
use Rattle.sheet_file.specs.Desks.{setting}
use Rattle.sheet_file.specs.Plans.{Body, shapes_plan, body_of}
use Rattle.sheet_file.specs.Turns.{Forward}

abbrev pub ShelfTold : ℕ → Cursor → Result Shelf Located → Cursor → Type 0
ShelfTold k s (Ok f) t = (shapes_plan k (number s) (ahead s) [] ≡ Ok (kept f)) × Forward k s t
ShelfTold k s (Err x) t = shapes_plan k (number s) (ahead s) [] ≡ Err x

abbrev pub body_said : ℕ → ℕ → Result code.Body Located → Cursor → Result Body Located
body_said records cells (Ok b) t = Ok (record { setting = setting b.desk records cells; count = b.count; line = number t; rest = ahead t })
body_said records cells (Err x) t = Err x

abbrev pub BodyTold : ℕ → Cursor → Result code.Body Located → Cursor → Type 0
BodyTold width s r t = (records cells : ℕ) → body_of width records cells (ahead s) ≡ body_said records cells r t
