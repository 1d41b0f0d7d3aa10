-- What symbols stand for, a need more at a time, from the last one.
use Rattle.std.proofs.Common.{◌≡◌, ◌≢◌, ◌≤◌, ◌<◌, ◌+◌, ◌-◌, ◌==◌, ◌∙◌, inl, inr, ℕ, suc, false}
use Rattle.std.proofs.Common.{List, [], ◌∷◌, refl, sym, ap, arith, length, drop, map, slice_index}
use Rattle.std.proofs.Common.{slice_set, get_or, get_or-set_same, get_or-set_other, length-set}
use Rattle.std.specs.List.{range_with_len}
use Rattle.std.proofs.lemmas.Bool.{cases_Bool, false≢true}
use Rattle.std.proofs.lemmas.Bool.Decides.{Decides-eqb}
use Rattle.std.proofs.lemmas.List.FromFn.{fill_by_all}
use Rattle.std.proofs.Math.Seq.{drop-cons}
use Rattle.std.specs.Prelude.{replicate}
use Rattle.std.proofs.lemmas.List.{length-replicate, get_or-replicate, drop_all}
use Rattle.module_facts.specs.declared.facts.Facts.{Facts}
use Rattle.module_symbols.specs.declared.needs.Need.{Need}
use Rattle.export_table.specs.declared.standing.ExportTable.{ExportTable}
use Rattle.export_table.specs.NeedTests.{given_by, kept_address}

-- The state of the search after some needs, counted from the last.
pub record IsGiven (t : ExportTable) (f : Facts) (count done : ℕ) (given : List ℕ) : Type 0 where
  pub long : length given ≡ count
  pub at : (k : ℕ) → k < count
      → slice_index given k ≡ given_by t f (drop (length f.needs - done) f.needs) k

stated : (t : ExportTable) (f : Facts) (need : Need) (rest : List Need) (k : ℕ) → need.symbol ≡ k
    → given_by t f (need ∷ rest) k ≡ kept_address t f need
stated t f need rest k is = rw ((Decides-eqb need.symbol k).1 is) refl

unstated : (t : ExportTable) (f : Facts) (need : Need) (rest : List Need) (k : ℕ)
    → (need.symbol == k) ≡ false → given_by t f (need ∷ rest) k ≡ given_by t f rest k
unstated t f need rest k other = rw other refl

pub given-next : (t : ExportTable) (f : Facts) (count done p : ℕ) (given : List ℕ) (need : Need)
    (value : ℕ)
    → IsGiven t f count done given → p + 1 + done ≡ length f.needs → need ≡ get_or f.needs p need
    → need.symbol < count → value ≡ kept_address t f need
    → IsGiven t f count (done + 1) (slice_set given need.symbol value)
given-next t f count done p given need value is place here inside address =
    let rest = drop (length f.needs - done) f.needs in
    let from : length f.needs - (done + 1) ≡ p = omega arith in
    let after : length f.needs - done ≡ suc p = omega arith in
    let split : drop (length f.needs - (done + 1)) f.needs ≡ need ∷ rest =
    ap (λ n. drop n f.needs) from ∙ drop-cons f.needs p need (omega arith)
    ∙ ap (λ x. x ∷ drop (suc p) f.needs) (sym here)
    ∙ ap (λ n. need ∷ drop n f.needs) (sym after) in
    record {
      long = length-set given need.symbol value ∙ is.long;
      at = λ k less.
          elim (cases_Bool (need.symbol == k)) [
            | inl same ↦
                let e : need.symbol ≡ k = (Decides-eqb need.symbol k).0 same in
                ap (λ i. slice_index (slice_set given i value) k) e
                ∙ get_or-set_same given k value 0 (omega (arith, is.long, less)) ∙ address
                ∙ sym (ap (λ ns. given_by t f ns k) split ∙ stated t f need rest k e)
            | inr other ↦
                let apart : k ≢ need.symbol
                = λ e. false≢true (sym other ∙ (Decides-eqb need.symbol k).1 (sym e)) in
                get_or-set_other given need.symbol k value 0 apart ∙ is.at k less
                ∙ sym (ap (λ ns. given_by t f ns k) split ∙ unstated t f need rest k other)
          ];
    }

pub given-all : (t : ExportTable) (f : Facts) (count done : ℕ) (given : List ℕ)
    → IsGiven t f count done given → length f.needs ≤ done
    → given ≡ map (given_by t f f.needs) (range_with_len 0 count)
given-all t f count done given is all =
    let none : length f.needs - done ≡ 0 = omega arith in
    fill_by_all (given_by t f f.needs) given count 0 is.long
    (λ k less. is.at k less ∙ ap (λ n. given_by t f (drop n f.needs) k) none)

pub given-none : (t : ExportTable) (f : Facts) (count : ℕ) (given : List ℕ)
    → given ≡ replicate count 0 → IsGiven t f count 0 given
given-none t f count given zeros =
    let none : drop (length f.needs - 0) f.needs ≡ []
    = drop_all (length f.needs - 0) f.needs (omega arith) in
    record {
      long = ap length zeros ∙ length-replicate count 0;
      at
          = λ k less. ap (λ g. slice_index g k) zeros ∙ get_or-replicate count k 0 0 less
          ∙ ap (λ ns. given_by t f ns k) (sym none);
    }
