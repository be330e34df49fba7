use Rattle.std.proofs.Common.{ap, refl}
use Rattle.chain_core.specs.Sessions.{seen}
use Rattle.script_session.specs.Told.{asked}
use Rattle.script_session.proofs.LineAnswers.{any_room, call_line, copy_line, fetch_line, finish_line, put_line, read_room}
use Rattle.script_session.proofs.Moving.{no_slot, slot_stays}
use Rattle.script_session.proofs.answer.answer_line.Goals as goal

pub returns-in-Read-clause-slot : goal.returns-in-Read-clause-slot
returns-in-Read-clause-slot g c = slot_stays _ _ c.args.piece.now c.read.ensures.answers.geometry c.requires.slot

pub returns-in-Write-clause-slot : goal.returns-in-Write-clause-slot
returns-in-Write-clause-slot g c = slot_stays _ _ c.args.piece.now c.write.ensures.answers.geometry c.requires.slot

pub returns-in-Trim-clause-slot : goal.returns-in-Trim-clause-slot
returns-in-Trim-clause-slot g c = slot_stays _ _ c.args.piece.now c.trim.ensures.answers.geometry c.requires.slot

pub returns-in-Flush-clause-slot : goal.returns-in-Flush-clause-slot
returns-in-Flush-clause-slot g c = slot_stays _ _ c.args.piece.now c.flush.ensures.answers.geometry c.requires.slot

pub returns-in-Finish-clause-slot : goal.returns-in-Finish-clause-slot
returns-in-Finish-clause-slot g c = slot_stays _ _ c.args.piece.now c.finish.ensures.geometry c.requires.slot

pub returns-in-Read-clause-answers : goal.returns-in-Read-clause-answers
returns-in-Read-clause-answers g c =
    let told = seen g.S.Store.disk g.R.Recorder.noted g.R.Recorder.told in
    call_line c.args.number c.args.form c.read.new.room c.called.result (told c.args.chain.now) (told c.read.new.chain) c.args.piece.now c.args.piece.now _ c.read.result (ap asked c.in-Read.is) c.called.ensures c.read.ensures.answers refl

pub returns-in-Read-clause-few : goal.returns-in-Read-clause-few
returns-in-Read-clause-few g c = read_room c.args.form c.in-Read.first c.in-Read.count c.read.result c.called.result (ap asked c.in-Read.is) c.called.ensures c.read.ensures.few

pub returns-in-Write-clause-answers : goal.returns-in-Write-clause-answers
returns-in-Write-clause-answers g c =
    let told = seen g.S.Store.disk g.R.Recorder.noted g.R.Recorder.told in
    call_line c.args.number c.args.form c.write.new.room c.called-in-Write.result (told c.args.chain.now) (told c.write.new.chain) c.args.piece.now c.args.piece.now _ c.write.result (ap asked c.in-Write.is) c.called-in-Write.ensures c.write.ensures.answers refl

pub returns-in-Write-clause-few : goal.returns-in-Write-clause-few
returns-in-Write-clause-few g c = any_room c.args.form _ c.called-in-Write.result (ap asked c.in-Write.is) tt

pub returns-in-Trim-clause-answers : goal.returns-in-Trim-clause-answers
returns-in-Trim-clause-answers g c =
    let told = seen g.S.Store.disk g.R.Recorder.noted g.R.Recorder.told in
    call_line c.args.number c.args.form c.args.room.now c.called-in-Trim.result (told c.args.chain.now) (told c.trim.new.chain) c.args.piece.now c.args.piece.now _ c.trim.result (ap asked c.in-Trim.is) c.called-in-Trim.ensures c.trim.ensures.answers refl

pub returns-in-Trim-clause-few : goal.returns-in-Trim-clause-few
returns-in-Trim-clause-few g c = any_room c.args.form _ c.called-in-Trim.result (ap asked c.in-Trim.is) tt

pub returns-in-Flush-clause-answers : goal.returns-in-Flush-clause-answers
returns-in-Flush-clause-answers g c =
    let told = seen g.S.Store.disk g.R.Recorder.noted g.R.Recorder.told in
    call_line c.args.number c.args.form c.args.room.now c.called-in-Flush.result (told c.args.chain.now) (told c.flush.new.chain) c.args.piece.now c.args.piece.now _ c.flush.result (ap asked c.in-Flush.is) c.called-in-Flush.ensures c.flush.ensures.answers refl

pub returns-in-Flush-clause-few : goal.returns-in-Flush-clause-few
returns-in-Flush-clause-few g c = any_room c.args.form _ c.called-in-Flush.result (ap asked c.in-Flush.is) tt

pub returns-in-Fetch-clause-answers : goal.returns-in-Fetch-clause-answers
returns-in-Fetch-clause-answers g c =
    let told = seen g.S.Store.disk g.R.Recorder.noted g.R.Recorder.told in
    fetch_line c.args.number c.args.form c.args.room.now c.fetched.result (told c.args.chain.now) (told c.fetch.new.chain) c.args.piece.now c.fetch.new.piece c.in-Fetch.stripe c.fetch.result (ap asked c.in-Fetch.is) c.fetched.ensures c.fetch.ensures.answers

pub returns-in-Fetch-clause-few : goal.returns-in-Fetch-clause-few
returns-in-Fetch-clause-few g c = any_room c.args.form _ c.fetched.result (ap asked c.in-Fetch.is) tt

pub returns-in-Put-clause-answers : goal.returns-in-Put-clause-answers
returns-in-Put-clause-answers g c =
    let told = seen g.S.Store.disk g.R.Recorder.noted g.R.Recorder.told in
    put_line c.args.number c.args.form c.args.room.now c.done_as.result (told c.args.chain.now) (told c.put.new.chain) c.args.piece.now c.put.new.piece c.put.result (ap asked c.in-Put.is) c.done_as.ensures c.put.ensures.answers c.put.ensures.empty

pub returns-in-Put-clause-few : goal.returns-in-Put-clause-few
returns-in-Put-clause-few g c = any_room c.args.form _ c.done_as.result (ap asked c.in-Put.is) tt

pub returns-in-Copy-clause-answers : goal.returns-in-Copy-clause-answers
returns-in-Copy-clause-answers g c =
    let told = seen g.S.Store.disk g.R.Recorder.noted g.R.Recorder.told in
    copy_line c.args.number c.args.form c.args.room.now c.done_as-in-Copy.result (told c.args.chain.now) (told c.copy.new.chain) c.args.piece.now c.copy.new.piece c.copy.result (ap asked c.in-Copy.is) c.done_as-in-Copy.ensures c.copy.ensures.answers

pub returns-in-Copy-clause-few : goal.returns-in-Copy-clause-few
returns-in-Copy-clause-few g c = any_room c.args.form _ c.done_as-in-Copy.result (ap asked c.in-Copy.is) tt

pub returns-in-Finish-clause-answers : goal.returns-in-Finish-clause-answers
returns-in-Finish-clause-answers g c =
    let told = seen g.S.Store.disk g.R.Recorder.noted g.R.Recorder.told in
    finish_line c.args.number c.args.form c.args.room.now c.done_as-in-Finish.result (told c.args.chain.now) (told c.finish.new.chain) c.args.piece.now c.args.piece.now c.finish.result (ap asked c.in-Finish.is) c.done_as-in-Finish.ensures c.finish.ensures.answers refl

pub returns-in-Finish-clause-few : goal.returns-in-Finish-clause-few
returns-in-Finish-clause-few g c = any_room c.args.form _ c.done_as-in-Finish.result (ap asked c.in-Finish.is) tt

pub returns-in-Put-clause-slot : goal.returns-in-Put-clause-slot
returns-in-Put-clause-slot g c = no_slot _ c.put.new.piece c.put.ensures.empty
