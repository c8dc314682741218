-- What comes of a plan on a sheet. Assumes nothing.
--     Laid P bs o    the calls of the plan P were made on a new sheet, one after another, up to the fault o, if there is one;
--                    bs are the boxes of the account of these calls, the oldest first, and the law over all calls holds of them
use Rattle.std.specs.Prelude.{◌≡◌, List, [], reverse, Option}
use Rattle.rules.specs.declared.boxes.BoxRecord.{BoxRecord}
use Rattle.rules.specs.Account.{Account}
use Rattle.rules.specs.Runs.{Event, Run}
use Rattle.rules.specs.Law.{Right}
use Rattle.items.specs.Faults.{Located}
use Rattle.sheet_file.specs.Plans.{Plan}
use Rattle.sheet_file.specs.Done.{ParasDone}

pub record Laid (P : Plan) (bs : List BoxRecord) (o : Option Located) : Type 0 where
  -- the calls with their answers, the newest first
  pub past : List Event
  pub done : ParasDone P.body [] past o
  pub account : Account
  pub run : Run P.size past account
  pub right : Right P.size past account
  pub listed : bs ≡ reverse account.boxes
