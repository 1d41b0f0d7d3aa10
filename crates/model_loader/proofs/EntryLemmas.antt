-- The entry that is made is the one of the step.
use Rattle.std.proofs.Common.{◌≡◌, ◌<◌, ◌==◌, ◌∙◌, ◌⊎◌, inl, inr, ℕ, suc, List, [], ◌∷◌, Option}
use Rattle.std.proofs.Common.{Some, None, refl, sym, ap, arith, length, cond, map, slice_index}
use Rattle.std.specs.Prelude.{find, option_map, All}
use Rattle.std.specs.List.{range_with_len}
use Rattle.std.specs.Option.{option_map_or}
use Rattle.std.proofs.lemmas.List.FromFn.{get_or-map-range_with_len, length-map-range_with_len}
use Rattle.elf_object.specs.Object.{FileObject}
use Rattle.module_facts.specs.declared.facts.Facts.{Facts}
use Rattle.module_symbols.specs.declared.needs.Need.{Need}
use Rattle.module_symbols.specs.declared.exports.Export.{Export}
use Rattle.module_facts.specs.declared.module.Module.{Module}
use Rattle.symbol_binding.specs.Needs.{is_seen}
use Rattle.image_layout.specs.Symbols.{address, addresses}
use Rattle.image_layout.specs.Laid.{laid, overflow}
use Rattle.image_layout.specs.declared.fault.LayFault.{LayFault}
use Rattle.image_layout.specs.declared.fault.LayFault.TheVariants.{Overflow as LayTooWide}
use Rattle.image_layout.specs.declared.fault.LayFault.TheVariants.{Memory as NoMemory}
use Rattle.x86_relocate.specs.declared.patch.Overflow.{Overflow as TooWide}
use Rattle.load_fault.specs.declared.fault.LoadFault.TheVariants.{Overflow, Memory}
use Rattle.load_fault.specs.FaultText.{load_fault_from}
use Rattle.export_table.specs.declared.placed.PlacedExport.{PlacedExport}
use Rattle.export_table.specs.declared.standing.Standing.{Standing}
use Rattle.export_table.specs.declared.standing.ExportTable.{ExportTable}
use Rattle.model_loader.specs.Machine.{Machine}
use Rattle.export_table.specs.NeedTests.{given_by, kept_address}
use Rattle.model_loader.specs.Standing.{Keeps}
use Rattle.model_loader.specs.Parts.{entry_by}
use Rattle.export_table.specs.Standing.{placed_by}
use Rattle.model_loader.specs.Step.{need_address, given_address, given_addresses, symbol_addresses}
use Rattle.model_loader.specs.Step.{module_size, placed_export, entry_at, bound_need}
use Rattle.model_loader.specs.Step.{overflow_fault}

pub map-same : {X Y : Type 0} (f g : X → Y) → ((x : X) → f x ≡ g x) → (xs : List X)
    → map f xs ≡ map g xs
map-same f g same [] = refl
map-same f g same (x ∷ xs) =
    ap (λ y. y ∷ map f xs) (same x) ∙ ap (λ ys. g x ∷ ys) (map-same f g same xs)

of-same : {X : Type 0} (f g : X → ℕ) → ((x : X) → f x ≡ g x) → (o : Option X)
    → option_map_or f o 0 ≡ option_map_or g o 0
of-same f g same None = refl
of-same f g same (Some x) = same x

module _ (machine : Machine) (t : ExportTable) (keeps : Keeps t machine) where
  address-kept : (f : Facts) (n : Need) → kept_address t f n ≡ need_address machine f n
  address-kept f n =
      ap (λ o. option_map_or (λ (s : Standing). cond (is_seen f.free s.gpl) s.address 0) o 0)
      (keeps.at n.name)

  pub given-is : (m : Module)
      → map (given_by t m.facts m.facts.needs) (range_with_len 0 (length m.object.symbols))
      ≡ given_addresses machine m
  unfolding given_addresses
  given-is m =
      map-same (given_by t m.facts m.facts.needs) (given_address machine m.facts)
      (λ k. of-same (kept_address t m.facts) (need_address machine m.facts) (address-kept m.facts)
      (find (λ (n : Need). n.symbol == k) m.facts.needs))
      (range_with_len 0 (length m.object.symbols))

pub length-addresses : (o : FileObject) (base : ℕ) (given : List ℕ)
    → length (addresses o base given) ≡ length o.symbols
unfolding addresses
length-addresses o base given =
    length-map-range_with_len (address o base given) 0 (length o.symbols)

address-at : (o : FileObject) (base : ℕ) (given : List ℕ) (k : ℕ) → k < length o.symbols
    → slice_index (addresses o base given) k ≡ address o base given k
unfolding addresses
address-at o base given k inside =
    get_or-map-range_with_len (address o base given) 0 (length o.symbols) k k 0 inside (omega arith)

exports-same : (f g : Export → PlacedExport) (n : ℕ) → ((e : Export) → e.symbol < n → f e ≡ g e)
    → (es : List Export) → All (λ (e : Export). e.symbol < n) es → map f es ≡ map g es
exports-same f g n same [] all = refl
exports-same f g n same (e ∷ es) all =
    ap (λ y. y ∷ map f es) (same e (all 0 e (omega arith)))
    ∙ ap (λ ys. g e ∷ ys) (exports-same f g n same es (λ k d less. all (suc k) d (omega arith)))

pub entry-is : (machine : Machine) (m : Module) (base : ℕ) (image addrs : List ℕ)
    → addrs ≡ symbol_addresses machine m base → image ≡ laid m.object base addrs
    → length image ≡ module_size m → entry_by m base image addrs ≡ entry_at machine m base
unfolding entry_at
entry-is machine m base image addrs is image_is size =
    let f = placed_by (symbol_addresses machine m base) in
    let g = placed_export machine m base in
    let exports : map (placed_by addrs) m.facts.exports ≡ map g m.facts.exports =
    ap (λ a. map (placed_by a) m.facts.exports) is
    ∙ exports-same f g (length m.object.symbols)
    (λ e inside. ap
    (λ a. record { name = e.name; crc = e.crc; gpl = e.gpl; space = e.space; address = a })
    (address-at m.object base (given_addresses machine m) e.symbol inside))
    m.facts.exports m.sound.exported in
    let laid_is : image ≡ laid m.object base (symbol_addresses machine m base)
    = image_is ∙ ap (laid m.object base) is in
    ap (λ n. record {
      loaded = record { name = m.facts.name; base = base; size = n };
      image = image;
      free = m.facts.free;
      imports = m.facts.imports;
      exports = map (placed_by addrs) m.facts.exports;
      needs = map bound_need m.facts.needs;
    })
    size
    ∙ ap (λ i. record {
      loaded = record { name = m.facts.name; base = base; size = module_size m };
      image = i;
      free = m.facts.free;
      imports = m.facts.imports;
      exports = map (placed_by addrs) m.facts.exports;
      needs = map bound_need m.facts.needs;
    })
    laid_is
    ∙ ap (λ es. record {
      loaded = record { name = m.facts.name; base = base; size = module_size m };
      image = laid m.object base (symbol_addresses machine m base);
      free = m.facts.free;
      imports = m.facts.imports;
      exports = es;
      needs = map bound_need m.facts.needs;
    }) exports

pub addresses-are : (machine : Machine) (t : ExportTable) → Keeps t machine
    → (m : Module) (base : ℕ) (given addrs : List ℕ) (count : ℕ)
    → given ≡ map (given_by t m.facts m.facts.needs) (range_with_len 0 count)
    → count ≡ length m.object.symbols → addrs ≡ addresses m.object base given
    → addrs ≡ symbol_addresses machine m base
addresses-are machine t keeps m base given addrs count given_are counted are =
    are
    ∙ ap (addresses m.object base)
    (given_are
    ∙ ap (λ n. map (given_by t m.facts m.facts.needs) (range_with_len 0 n)) counted
    ∙ given-is machine t keeps m)

pub fits-is : (machine : Machine) (m : Module) (base : ℕ) (addrs : List ℕ)
    → addrs ≡ symbol_addresses machine m base → overflow m.object base addrs ≡ None
    → overflow_fault machine m base ≡ None
fits-is machine m base addrs are none =
    ap (option_map (λ (o : TooWide). Overflow o.section o.entry))
    (ap (overflow m.object base) (sym are) ∙ none)

pub fault-is : (machine : Machine) (m : Module) (base : ℕ) (addrs : List ℕ) (e : LayFault)
    → addrs ≡ symbol_addresses machine m base
    → (e ≡ NoMemory)
    ⊎ ((o : TooWide) × (overflow m.object base addrs ≡ Some o) × (e ≡ LayTooWide o))
    → (load_fault_from e ≡ Memory) ⊎ (overflow_fault machine m base ≡ Some (load_fault_from e))
fault-is machine m base addrs e are (inl memory) = inl (ap load_fault_from memory)
fault-is machine m base addrs e are (inr wide) =
    inr (ap (option_map (λ (o : TooWide). Overflow o.section o.entry))
    (ap (overflow m.object base) (sym are) ∙ wide.1)
    ∙ sym (ap (λ f. Some (load_fault_from f)) wide.2))
