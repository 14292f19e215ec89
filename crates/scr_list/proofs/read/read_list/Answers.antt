use Rattle.std.proofs.Common.{◌≡◌, ◌++◌, length, take, drop, sym, ap, ◌∙◌, arith, rules, length-append, length-take-le}
use Rattle.std.proofs.lemmas.List.{take_all}
use Rattle.std.proofs.lemmas.Result.{err_from_is_err_and}
use Rattle.scr_outside.proofs.ChangeLemmas.{Gives-append}
use Rattle.scr_outside.specs.Faults.{raised}
use Rattle.scr_list.proofs.ReadLemmas.{few-most, few-not_most, in_part-few, in_part-after, read-on}
use Rattle.scr_list.proofs.read.read_list.Goals as goal

pub slice_bounds-read_all-end-2 : goal.slice_bounds-read_all-end-2
slice_bounds-read_all-end-2 g c = sym (length-take-le 4097 c.args.buffer.now (omega (arith, c.requires)))

pub returns-in_err-filled-clause-part : goal.returns-in_err-filled-clause-part
returns-in_err-filled-clause-part g c =
    let p = err_from_is_err_and c.from_residual.result c.from_residual.ensures.1 in
    let size = length-take-le 4097 c.args.buffer.now (omega (arith, c.requires)) in
    rw p.1 (in_part-few (length (take 4097 c.args.buffer.now)) (omega (arith, size)) c.in_err-filled.ensures.part)

pub returns-then-filled-lt-FIRST_ROOM-clause-most : goal.returns-then-filled-lt-FIRST_ROOM-clause-most
returns-then-filled-lt-FIRST_ROOM-clause-most g c = few-most _ _ c.if-filled-lt-FIRST_ROOM.true

pub returns-then-filled-lt-FIRST_ROOM-clause-end : goal.returns-then-filled-lt-FIRST_ROOM-clause-end
returns-then-filled-lt-FIRST_ROOM-clause-end g c = λ few.
    c.in_ok-filled.ensures.end
    (let size = length-take-le 4097 c.args.buffer.now (omega (arith, c.requires)) in omega (arith, size, c.if-filled-lt-FIRST_ROOM.true))

pub returns-then-filled-lt-FIRST_ROOM-clause-no_end : goal.returns-then-filled-lt-FIRST_ROOM-clause-no_end
returns-then-filled-lt-FIRST_ROOM-clause-no_end g c = λ most. absurd (few-not_most _ _ c.if-filled-lt-FIRST_ROOM.true most)

pub slice_bounds-read_room-end-2 : goal.slice_bounds-read_room-end-2
slice_bounds-read_room-end-2 g c =
    let buffer = c.read_all.new.buffer ++ drop 4097 c.args.buffer.now in
    let first : length c.read_all.new.buffer ≡ 4097 = omega (arith, c.read_all.auto.buffer, length-take-le 4097 c.args.buffer.now (omega (arith, c.requires))) in
    sym (length-take-le 4097 buffer (omega (arith, first, length-append c.read_all.new.buffer (drop 4097 c.args.buffer.now))))

pub returns-in_err-more-clause-part : goal.returns-in_err-more-clause-part
returns-in_err-more-clause-part g c =
    let p = err_from_is_err_and c.from_residual-in_err-more.result c.from_residual-in_err-more.ensures.1 in
    let first : length c.read_all.new.buffer ≡ 4097 = omega (arith, c.read_all.auto.buffer, length-take-le 4097 c.args.buffer.now (omega (arith, c.requires))) in
    let read =
    read-on c.args.buffer.now c.read_all.new.buffer c.read_all-2.new.buffer c.read_room-room.result 0 (omega (arith, c.requires)) first
    c.read_room-room.ensures.room c.read_room-room.ensures.most (omega (arith, c.read_all-2.auto.buffer)) (omega arith)
    in
    let size = read.size in
    let room = read.room_is in
    let no_end = c.in_ok-filled.ensures.no_end (omega (arith, c.in_ok-filled.ensures.within, c.read_all.auto.buffer, first)) in
    rw p.1
    (in_part-after c.read_all.new.buffer _ first (omega (arith, size, room, c.read_room-room.ensures.least))
    (rw (take_all c.in_ok-filled.filled c.read_all.new.buffer (omega (arith, first, c.if-filled-lt-FIRST_ROOM.false))) at c.in_ok-filled.ensures.taken)
    no_end c.in_err-more.ensures.part)

pub returns : goal.returns
returns g c =
    let first : length c.read_all.new.buffer ≡ 4097 = omega (arith, c.read_all.auto.buffer, length-take-le 4097 c.args.buffer.now (omega (arith, c.requires))) in
    let more = c.in_ok-more.ensures in
    let read =
    read-on c.args.buffer.now c.read_all.new.buffer c.read_all-2.new.buffer c.read_room-room.result c.in_ok-more.more (omega (arith, c.requires)) first
    c.read_room-room.ensures.room c.read_room-room.ensures.most (omega (arith, c.read_all-2.auto.buffer)) (omega (arith, more.within, c.read_all-2.auto.buffer))
    in
    let most = read.most in
    let size = read.size in
    let no_end = c.in_ok-filled.ensures.no_end (omega (arith, c.in_ok-filled.ensures.within, c.read_all.auto.buffer, first)) in
    record {
      within = search rules;
      most = omega (arith, most, size, more.within, c.read_room-room.ensures.least);
      taken = rw read.whole
          (Gives-append
          (rw (take_all c.in_ok-filled.filled c.read_all.new.buffer (omega (arith, first, c.if-filled-lt-FIRST_ROOM.false))) at c.in_ok-filled.ensures.taken)
          more.taken);
      end = λ few. let told = more.end (omega (arith, most, size, few)) in record { spent = told.spent; once = told.once ∙ ap raised no_end };
      no_end = λ many. more.no_end (omega (arith, most, size, many, c.read_room-room.ensures.least)) ∙ no_end;
      part = search rules;
    }
