use Rattle.sheet_file.proofs.setters.para_by_para.spend.Goals as goal

pub returns-clause-told : goal.returns-clause-told
returns-clause-told c = rw c.unwrap.ensures at c.end.ensures.account
