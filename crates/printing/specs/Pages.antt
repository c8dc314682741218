-- A page of the code, as memory that bytes are laid into. Assumes nothing.
--     on p   the memory of the page p, with the bytes laid so far
use Rattle.printing.specs.declared.pages.Page.{Page}
use Rattle.printing.specs.Laying.{Memory, memory}

abbrev pub on : Page → Memory
on p = memory p.at p.out.now
