use Rattle.std.proofs.Common.{◌≡◌, ℕ, List, ◌&&◌, length, map, ap, ◌∙◌, arith}
use Rattle.std.specs.List.{list_all}
use Rattle.sheet_object.specs.declared.sheet.SheetExport.{SheetExport}
use Rattle.sheet_object.specs.declared.sheet.SheetPlace.{SheetPlace}
use Rattle.sheet_object.specs.declared.sheet.SheetSpace.{SheetSpace}
use Rattle.name_table.specs.FirstSeen.{is_among}
use Rattle.sheet_object.specs.Sheet.{are_chosen, are_distinct, are_known, export_names}
use Rattle.sheet_object.specs.Sheet.{place_names, spaced_names}
use Rattle.sheet_object.proofs.NameLemmas.{map-same}
use Rattle.sheet_object.proofs.SheetLemmas.{few}
use Rattle.sheet_object.proofs.SymbolLemmas.{length-names_of, length-symbol_names}
use Rattle.sheet_object.proofs.conditions.are_known.Goals as goal

pub are_distinct-requires : goal.are_distinct-requires
are_distinct-requires c =
    let s = c.args.sheet.now in
    let f = few s c.requires.few in
    omega (
      arith,
      length-names_of c.args.symbols.now,
      ap length c.requires.symbols,
      length-symbol_names s,
      f.exports,
      f.needs,
    )

pub are_among-requires : goal.are_among-requires
are_among-requires c =
    let s = c.args.sheet.now in
    let f = few s c.requires.few in
    omega (
      arith,
      length-names_of c.args.symbols.now,
      ap length c.requires.symbols,
      length-symbol_names s,
      f.exports,
      f.needs,
    )

pub are_chosen-requires : goal.are_chosen-requires
are_chosen-requires c =
    let f
    = few c.args.sheet.now c.requires.few in omega
    (arith, ap length c.as_slice-exports.ensures, f.exports)

pub are_chosen-requires-2 : goal.are_chosen-requires-2
are_chosen-requires-2 c =
    let f
    = few c.args.sheet.now c.requires.few in omega
    (arith, ap length c.as_slice-exports.ensures, f.exports)

pub returns : goal.returns
unfolding are_known
returns c =
    let s = c.args.sheet.now in
    let m = c.args.more.now in
    let exports : map (λ (e : SheetExport). e.name) c.as_slice-exports.result.now ≡ export_names s
    = ap (map (λ (e : SheetExport). e.name)) c.as_slice-exports.ensures in
    let places : map (λ (p : SheetPlace). p.symbol) c.as_slice.result.now ≡ place_names s
    = ap (map (λ (p : SheetPlace). p.symbol)) c.as_slice.ensures in
    let gpl : map (λ (n : List ℕ). n) c.as_slice-2.result.now ≡ m.gpl
    = ap (map (λ (n : List ℕ). n)) c.as_slice-2.ensures ∙ map-same m.gpl in
    let spaces : map (λ (p : SheetSpace). p.name) c.as_slice-3.result.now ≡ spaced_names m
    = ap (map (λ (p : SheetSpace). p.name)) c.as_slice-3.ensures in
    let first = c.in_ok-distinct.ensures ∙ ap are_distinct c.requires.symbols in
    let second
    = c.in_ok-placed.ensures ∙ (λ i. list_all (is_among (c.requires.symbols i)) (places i)) in
    let third = c.in_ok-gpl.ensures ∙ (λ i. are_chosen (exports i) (gpl i)) in
    let fourth = c.in_ok-spaced.ensures ∙ (λ i. are_chosen (exports i) (spaces i)) in
    c.all_of.ensures ∙ (λ i. first i && second i && third i && fourth i)
