use Rattle.scr_pages.proofs.checking.sheet_groups.Goals as goal

pub returns-in-Err-clause-one : goal.returns-in-Err-clause-one
returns-in-Err-clause-one c = c.sheets_are_read_back.ensures.one c.args.bytes.now
