-- Words that are written, one after the other.
use Rattle.std.proofs.Common.{◌≡◌, ◌≤◌, ◌<◌, ◌+◌, ◌∙◌, inl, inr, ℕ, false, List, [], ◌∷◌, ◌++◌}
use Rattle.std.proofs.Common.{Some, None, refl, sym, ap, subst, arith, length, map, take, get_or}
use Rattle.std.proofs.Common.{Bool, cond}
use Rattle.std.specs.Prelude.{slice_get}
use Rattle.std.specs.List.{count_by, range_with_len}
use Rattle.std.proofs.lemmas.Bool.{cases_lt}
use Rattle.std.proofs.lemmas.List.{map_push, take_more}
use Rattle.std.proofs.lemmas.List.FromFn.{fill_by_all}
use Rattle.std.proofs.lemmas.List.Sums.{sum_by-cons}
use Rattle.std.proofs.lemmas.Option.{get_or_from_slice_get, slice_get-get_or, slice_get_within}
use Rattle.raw_image.specs.Bytes.{with_bytes}
use Rattle.elf_object.specs.Object.{FileObject}
use Rattle.elf_sections.proofs.TestLemmas.{each-passed, each-failed}
use Rattle.param_apply.specs.declared.claims.Claims.{Claims}
use Rattle.param_apply.specs.declared.fault.ParamFault.{ParamFault}
use Rattle.param_apply.specs.Words.{Parameter, Setting}
use Rattle.param_apply.specs.Applied.{fault_at, is_named, named_count, piece, setting_fault}
use Rattle.param_apply.specs.Applied.{with_pieces, words_fault}
use Rattle.param_apply.specs.Writing.{AreClaims, IsWritten}
use Rattle.param_apply.proofs.ImageLemmas.{length-with_pieces, with-more, with-none}

take-item : {X : Type 0} (xs : List X) (i : ℕ) (x : X) → slice_get xs i ≡ Some x
    → take (i + 1) xs ≡ take i xs ++ x ∷ []
take-item xs i x is =
    take_more xs i x (slice_get_within xs i x is)
    ∙ ap (λ y. take i xs ++ y ∷ []) (get_or_from_slice_get xs i x x is)

-- The item that a loop reads.
pub item-read : {X : Type 0} (xs : List X) (i : ℕ) (x : X) → i < length xs → x ≡ get_or xs i x
    → slice_get xs i ≡ Some x
item-read xs i x within is = slice_get-get_or xs i x within ∙ ap Some (sym is)

-- Before any word.
pub written-none : (image copy : List ℕ) (c : Claims) (o : FileObject) (params : List Parameter)
    (ss : List Setting)
    → AreClaims c o params [] → length c.taken.items ≡ length image → copy ≡ image
    → IsWritten image copy c o params ss 0
written-none image copy c o params ss claims taken same = record {
  claims = claims;
  taken = taken;
  bytes = same ∙ with-none image;
  long = ap length same;
  passed = λ j less. absurd (omega arith);
}

fault-here : (o : FileObject) (params : List Parameter) (len : ℕ) (ss : List Setting) (i : ℕ)
    (s : Setting)
    → slice_get ss i ≡ Some s
    → fault_at o params len ss i ≡ setting_fault o params len (take i ss) s
fault-here o params len ss i s is = rw is refl

-- One word more.
pub written-more : (image copy new : List ℕ) (c d : Claims) (o : FileObject)
    (params : List Parameter) (ss : List Setting) (i : ℕ) (s : Setting)
    → IsWritten image copy c o params ss i → slice_get ss i ≡ Some s
    → AreClaims d o params (take i ss ++ s ∷ []) → length d.taken.items ≡ length c.taken.items
    → new ≡ with_bytes copy (piece params s).at (piece params s).bytes
    → (piece params s).at + length (piece params s).bytes ≤ length copy
    → setting_fault o params (length copy) (take i ss) s ≡ None
    → IsWritten image new d o params ss (i + 1)
written-more image copy new c d o params ss i s was is claims same bytes inside passed =
    let front = take-item ss i s is in
    let ps = map (piece params) (take i ss) in
    let bytes_are : new ≡ with_pieces image (map (piece params) (take (i + 1) ss)) =
    bytes ∙ ap (λ b. with_bytes b (piece params s).at (piece params s).bytes) was.bytes
    ∙ with-more image ps (piece params s) (omega (arith, was.long, inside))
    ∙ ap (with_pieces image) (sym (map_push (piece params) (take i ss) s))
    ∙ ap (λ xs. with_pieces image (map (piece params) xs)) (sym front) in
    record {
      claims = subst (AreClaims d o params) (sym front) claims;
      taken = same ∙ was.taken;
      bytes = bytes_are;
      long = ap length bytes_are ∙ length-with_pieces image (map (piece params) (take (i + 1) ss));
      passed = λ j less.
          elim (cases_lt j i) [
            | inl early ↦ was.passed j early
            | inr late ↦
                let at : j ≡ i = omega arith in
                ap (fault_at o params (length image) ss) at
                ∙ fault-here o params (length image) ss i s is
                ∙ ap (λ n. setting_fault o params n (take i ss) s) (sym was.long) ∙ passed
          ];
    }

-- The first word at fault.
pub words-failed : (image copy : List ℕ) (c : Claims) (o : FileObject) (params : List Parameter)
    (ss : List Setting) (i : ℕ) (s : Setting) (fault : ParamFault)
    → IsWritten image copy c o params ss i → slice_get ss i ≡ Some s
    → setting_fault o params (length copy) (take i ss) s ≡ Some fault
    → words_fault o params (length image) ss ≡ Some fault
unfolding words_fault
words-failed image copy c o params ss i s fault was is failed =
    each-failed (length ss) (fault_at o params (length image) ss) i fault
    (slice_get_within ss i s is) was.passed
    (fault-here o params (length image) ss i s is
    ∙ ap (λ n. setting_fault o params n (take i ss) s) (sym was.long) ∙ failed)

-- All words are written.
pub words-passed : (image copy : List ℕ) (c : Claims) (o : FileObject) (params : List Parameter)
    (ss : List Setting) (i : ℕ)
    → IsWritten image copy c o params ss i → length ss ≤ i
    → words_fault o params (length image) ss ≡ None
unfolding words_fault
words-passed image copy c o params ss i was all =
    each-passed (length ss) (fault_at o params (length image) ss)
    (λ j less. was.passed j (omega arith))

count-map : {X : Type 0} (f : X → Bool) (xs : List X) → count_by (λ b. b) (map f xs) ≡ count_by f xs
count-map f [] = refl
count-map f (x ∷ xs) =
    sum_by-cons (λ (b : Bool). cond b 1 0) (f x) (map f xs)
    ∙ ap (λ n. cond (f x) 1 0 + n) (count-map f xs)
    ∙ sym (sum_by-cons (λ x. cond (f x) 1 0) x xs)

-- How many parameters are named.
pub count-named : (c : Claims) (o : FileObject) (params : List Parameter) (ss : List Setting)
    → AreClaims c o params ss → count_by (λ b. b) c.named.items ≡ named_count params ss
count-named c o params ss are =
    ap (count_by (λ b. b))
    (fill_by_all (is_named ss) c.named.items (length params) false are.count are.named)
    ∙ count-map (is_named ss) (range_with_len 0 (length params))
