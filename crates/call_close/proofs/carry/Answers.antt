-- `call_close::carry` meets its contract. Assumes nothing.
use Rattle.call_close.proofs.Carried.{unfiles-inside, files-inside, carried-ends, carried-unfiles, carried-files}
use Rattle.call_close.proofs.carry.Goals as goal

pub put_record-requires : goal.put_record-requires
put_record-requires c =
    (c.requires.0, unfiles-inside c.args.plan c.requires.2 _ c.in-Unfiles.is)

pub put_record-requires-in-Files : goal.put_record-requires-in-Files
put_record-requires-in-Files c =
    (c.requires.0, files-inside c.args.plan c.requires.2 _ _ c.in-Files.is)

pub returns-in-Ends : goal.returns-in-Ends
returns-in-Ends c =
    let a = c.args in carried-ends a.tables.now a.at a.user a.opening a.plan _ c.in-Ends.is c.end.ensures

pub returns-in-Unfiles : goal.returns-in-Unfiles
returns-in-Unfiles c =
    let a = c.args in
    carried-unfiles a.tables.now a.at a.user a.opening a.plan _ _ _ _ c.put_record.ensures c.end-in-Unfiles.ensures c.in-Unfiles.is c.unused_record-filed.ensures

pub returns-in-Files : goal.returns-in-Files
returns-in-Files c =
    let a = c.args in
    carried-files a.tables.now a.at a.user a.opening a.plan _ _ _ _ c.put_record-in-Files.ensures c.end-in-Files.ensures _ c.in-Files.is c.filed_record-filed.ensures
