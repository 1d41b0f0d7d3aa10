use Rattle.std.proofs.Common.{◌≡◌, ◌+◌, ◌*◌, ◌++◌, length, map, get_or, take, Some, ap, sym, subst}
use Rattle.std.proofs.Common.{◌∙◌, arith}
use Rattle.std.proofs.lemmas.List.{take_all}
use Rattle.std.specs.List.{flat_map}
use Rattle.std.specs.Int.{w64, cast_unsigned}
use Rattle.name_table.specs.NameTable.{IsTableOf, place_of}
use Rattle.sheet_object.specs.Sheet.{symbol_names}
use Rattle.elf_write.specs.Number.{word, xword}
use Rattle.sheet_object.specs.Symbols.{local_symbols, symbol_number}
use Rattle.sheet_object.specs.Contents.{places_bytes}
use Rattle.sheet_object.specs.Writing.{names_of}
use Rattle.sheet_object.proofs.NameLemmas.{name-within}
use Rattle.sheet_object.proofs.SheetLemmas.{fits}
use Rattle.sheet_object.proofs.SymbolLemmas.{length-symbol_names, length-names_of, number-is}
use Rattle.sheet_object.proofs.SymbolLemmas.{places-all, places-next}
use Rattle.sheet_object.proofs.relocations.relocations.Goals as goal

pub local_count-locals-requires : goal.local_count-locals-requires
local_count-locals-requires c =
    let f
    = fits c.args.sheet.now c.args.further.now.more.now c.requires in omega
    (arith, ap length c.as_slice.ensures, f.exports)

pub table_of-requires : goal.table_of-requires
table_of-requires c =
    let s = c.args.sheet.now in
    let f = fits s c.args.further.now.more.now c.requires in
    omega (
      arith,
      ap length c.deref.ensures.value,
      length-names_of c.in_ok-names.names.items,
      ap length c.in_ok-names.ensures,
      length-symbol_names s,
      f.exports,
      f.needs,
    )

pub symbol_number-symbol-requires : goal.symbol_number-symbol-requires
symbol_number-symbol-requires c = λ k is.
    let s = c.args.sheet.now in
    let f = fits s c.args.further.now.more.now c.requires in
    let table : IsTableOf c.in_ok-table.table (map (λ n. Some n) (symbol_names s)) =
    subst (λ l. IsTableOf c.in_ok-table.table (map (λ n. Some n) l))
    (ap names_of c.deref.ensures.value ∙ c.in_ok-names.ensures) c.in_ok-table.ensures in
    omega (
      arith,
      name-within (symbol_names s) c.as_bytes.result.now k
          (sym (table.places c.as_bytes.result.now) ∙ is),
      c.local_count-locals.ensures.bound,
      ap length c.as_slice.ensures,
      length-symbol_names s,
      f.exports,
      f.needs,
    )

pub loop-k-preserved : goal.loop-k-preserved
loop-k-preserved c =
    let s = c.args.sheet.now in
    let m = c.args.further.now.more.now in
    let k = c.loop-k.k in
    let x = c.place-item.result in
    let table : IsTableOf c.in_ok-table.table (map (λ n. Some n) (symbol_names s)) =
    subst (λ l. IsTableOf c.in_ok-table.table (map (λ n. Some n) l))
    (ap names_of c.deref.ensures.value ∙ c.in_ok-names.ensures) c.in_ok-table.ensures in
    let locals : c.local_count-locals.result ≡ 1 + length (flat_map (local_symbols m) s.exports) =
    c.local_count-locals.ensures.count
    ∙ ap (λ xs. 1 + length (flat_map (local_symbols m) xs)) c.as_slice.ensures in
    let number : c.symbol_number-symbol.result ≡ symbol_number s m x.symbol =
    c.symbol_number-symbol.ensures
    ∙ number-is s m c.local_count-locals.result (place_of c.in_ok-table.table c.as_bytes.result.now)
    c.as_bytes.result.now locals (table.places c.as_bytes.result.now)
    ∙ ap (symbol_number s m) c.as_bytes.ensures in
    places-next s m s.places k x c.loop-k.content.items c.push_relocation.new.out.items
    (omega (arith, c.loop-k-test.true, ap length c.as_slice-place-items.ensures))
    (c.place-item.is ∙ ap (λ l. get_or l k x) c.as_slice-place-items.ensures) c.loop-k.invariant
    (c.in_ok-push_relocation.ensures
    ∙ ap (λ n. c.loop-k.content.items
    ++ (xword (8 * k) ++ word x.kind ++ word n ++ xword (cast_unsigned w64 x.addend)))
    number)

pub returns : goal.returns
returns c =
    let s = c.args.sheet.now in
    let m = c.args.further.now.more.now in
    let all : c.loop-k.k ≡ length s.places
    = omega (
      arith,
      c.loop-k-test.false,
      c.loop-k.auto.k-end,
      ap length c.as_slice-place-items.ensures,
    ) in
    places-all s m c.loop-k.content.items
    (c.loop-k.invariant
    ∙ ap (places_bytes s m 0)
    (ap (λ n. take n s.places) all ∙ take_all (length s.places) s.places (omega arith)))
