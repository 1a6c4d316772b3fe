-- `list_all` meets its contract: the first form is stored, and the run writes what fits of the others. Assumes nothing.
use Rattle.std.proofs.Common.{◌≡◌, Some, None, length, sym, ◌∙◌, arith, rules}
use Rattle.peptide_listing.specs.ListingLaws.{list_full, list_done, list_few}
use Rattle.peptide_listing.proofs.listing.list_all.Goals as goal

pub returns-then-room-eq0 : goal.returns-then-room-eq0
returns-then-room-eq0 c =
    let a = c.args in
    let n : length a.bare.slots ≡ 66 = search rules in
    list_full a.out.now a.bare.slots a.table.slots a.sites.now a.rules.now a.limit a.cap n (sym c.room_for-room.ensures ∙ c.if-room-eq0.true)

pub overflow_cast-result : goal.overflow_cast-result
overflow_cast-result c =
    let a = c.args in
    let n : length a.bare.slots ≡ 66 = search (rules, c.well_formed.0) in
    let m = c.room_for-room in
    omega (arith, list_few a.out.now a.bare.slots a.table.slots a.sites.now a.rules.now a.limit a.cap n c.overlaid-first.result.slots c.put_form.new.out c.list_forms.new.out m.result (Some c.in-Some.count) m.ensures (omega (arith, c.if-room-eq0.false)) c.overlaid-first.ensures c.put_form.ensures c.in-Some.ensures)

pub returns-in-Some : goal.returns-in-Some
returns-in-Some c =
    let a = c.args in
    let n : length a.bare.slots ≡ 66 = search (rules, c.well_formed.0) in
    let m = c.room_for-room in
    list_done a.out.now a.bare.slots a.table.slots a.sites.now a.rules.now a.limit a.cap n c.overlaid-first.result.slots c.put_form.new.out c.list_forms.new.out m.result (Some c.in-Some.count) m.ensures (omega (arith, c.if-room-eq0.false)) c.overlaid-first.ensures c.put_form.ensures c.in-Some.ensures

pub returns-in-None : goal.returns-in-None
returns-in-None c =
    let a = c.args in
    let n : length a.bare.slots ≡ 66 = search (rules, c.well_formed.0) in
    let m = c.room_for-room in
    list_done a.out.now a.bare.slots a.table.slots a.sites.now a.rules.now a.limit a.cap n c.overlaid-first.result.slots c.put_form.new.out c.list_forms.new.out m.result None m.ensures (omega (arith, c.if-room-eq0.false)) c.overlaid-first.ensures c.put_form.ensures c.in-None.ensures
