use Rattle.std.proofs.Common.{Ok, Err, string_bytes}
use Rattle.sheet.proofs.Run.{sheet-made-of}
use Rattle.sheet.proofs.sheet_of.Goals as goal

pub returns-in-Ok : goal.returns-in-Ok
returns-in-Ok c = sheet-made-of string_bytes c.args.text.now (Ok c.in-Ok.told) c.listing_of.result c.in-Ok.ensures c.listing_of.ensures

pub returns : goal.returns
returns c = sheet-made-of string_bytes c.args.text.now (Err c.in-Err.fault) c.fault_line.result c.in-Err.ensures c.fault_line.ensures
