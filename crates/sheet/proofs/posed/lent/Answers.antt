use Rattle.std.proofs.Common.{◌≡◌, map, length, get_or, arith, sym, ◌∙◌}
use Rattle.std.proofs.lemmas.List.{ext_get_or, get_or-map, length-map}
use Rattle.sheet.specs.Draft.{no_entry}
use Rattle.sheet.specs.Posed.{entry_row}
use Rattle.sheet.proofs.Lents.{entries-long}
use Rattle.sheet.proofs.posed.lent.Goals as goal

pub returns : goal.returns
returns c =
    let long : length c.args.e.entry ≡ 16 = entries-long c.args.e _ c.well_formed.0 in
    let made : length c.map.result ≡ 16 = c.map.ensures.items.long in
    ext_get_or (entry_row no_entry) c.map.result (map entry_row c.args.e.entry) (made ∙ sym (length-map c.args.e.entry entry_row ∙ long)) (λ i h.
    let k = c.map.ensures.items.at i no_entry (entry_row no_entry) (omega arith) in
    let e : get_or c.map.result i (entry_row no_entry) ≡ entry_row (get_or c.args.e.entry i no_entry) = k.2.met in
    e ∙ sym (get_or-map entry_row c.args.e.entry i no_entry (entry_row no_entry) (omega arith)))
