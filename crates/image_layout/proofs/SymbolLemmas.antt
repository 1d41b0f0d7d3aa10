-- Places and addresses that code reads.
use Rattle.std.proofs.Common.{◌≡◌, ◌<◌, ◌+◌, ◌%◌, ◌^◌, ◌∙◌, ℕ, List, slice_index, length, Some}
use Rattle.std.proofs.Common.{refl, ap, arith}
use Rattle.std.specs.List.{slice_get}
use Rattle.std.proofs.lemmas.List.FromFn.{get_or-map-range_with_len, length-map-range_with_len}
use Rattle.elf_sections.specs.declared.section.Section.{Section}
use Rattle.image_layout.specs.Offsets.{offset, offsets}
use Rattle.image_layout.specs.Symbols.{address, symbol_address}
use Rattle.elf_object.specs.declared.symbol.Symbol.{Symbol}
use Rattle.elf_object.specs.Object.{FileObject}

pub offset_at : (xs : List Section) (layout : List ℕ) (i : ℕ) → layout ≡ offsets xs → i < length xs
    → slice_index layout i ≡ offset xs i
unfolding offsets
offset_at xs layout i is within =
    ap (λ l. slice_index l i) is
    ∙ get_or-map-range_with_len (offset xs) 0 (length xs) i i 0 within (omega arith)

pub length_layout : (xs : List Section) (layout : List ℕ) → layout ≡ offsets xs
    → length layout ≡ length xs
unfolding offsets
length_layout xs layout is = ap length is ∙ length-map-range_with_len (offset xs) 0 (length xs)

pub wrapped_twice : (a b c : ℕ) → ((a + b) % 2 ^ 64 + c) % 2 ^ 64 ≡ (a + b + c) % 2 ^ 64
wrapped_twice a b c = omega arith

pub address-is : (o : FileObject) (base : ℕ) (given : List ℕ) (k : ℕ) (s : Symbol)
    → slice_get o.symbols k ≡ Some s
    → address o base given k ≡ symbol_address o.sections base (slice_index given k) s
unfolding address
address-is o base given k s is = rw is refl

pub wrapped_place : (a b : ℕ) → (a + b % 2 ^ 64) % 2 ^ 64 ≡ (a + b) % 2 ^ 64
wrapped_place a b = omega arith
