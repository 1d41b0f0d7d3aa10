-- The file of a map stands for the map.
use Rattle.std.proofs.Common.{◌≡◌, refl, ap, ◌∙◌, ℕ, suc, ◌+◌, ◌^◌, ◌<◌, ◌≤◌, true, cond, List, []}
use Rattle.std.proofs.Common.{◌∷◌, ◌++◌, length, Some, None, All, arith, lit<}
use Rattle.std.proofs.lemmas.Bool.{eq-eqb, le-ltb}
use Rattle.std.specs.FinMap.{entries}
use Rattle.std.specs.List.{AllByRecursion}
use Rattle.km_names.specs.First.{first}
use Rattle.km_names.specs.Number.{be}
use Rattle.index_format.specs.declared.numbers.TheConstants.{FIRST_PLACE, MAGIC, VERSION}
use Rattle.index_format.specs.Map.{KeyValues}
use Rattle.index_format.specs.Check.{BadMagic, BadVersion, BadNode, arrival_faults, arrivals}
use Rattle.index_format.specs.Check.{root_arrival, index_fault}
use Rattle.index_format.specs.Tree.{Entry, longest, tree, Rises}
use Rattle.index_format.specs.File.{number, offset, written, file_of, file}
use Rattle.index_format.specs.Holds.{Holds}
use Rattle.index_format.proofs.BigEndian.{be-at, be-number}
use Rattle.index_write.proofs.Walks.{Sound, Good-sound, bytes, root_link, root_stands, root_start}
use Rattle.index_write.proofs.Walks.{root_is, file-values}
use Rattle.index_write.proofs.Visits.{RowOk}
use Rattle.index_write.proofs.Rows.{KeyBytes, Fine, node_sound, place_is, q_inside, node_visited}
use Rattle.index_write.proofs.Rows.{claim_below}

key_bytes : (key : List ℕ) → All (λ byte. (0 < byte) × (byte < 128)) key → KeyBytes key
key_bytes [] h = tt
key_bytes (c ∷ key) h = (h 0 0 (omega arith), key_bytes key (λ k d lt. h (suc k) d (omega arith)))

fine_keys : (es : List Entry) → Sound es → AllByRecursion (λ e. KeyBytes e.0) es
fine_keys [] h = tt
fine_keys (e ∷ es) h = (key_bytes e.0 h.0.key, fine_keys es h.1)

fine_some : (es : List Entry) → Sound es → AllByRecursion (λ e. 0 < length e.1) es
fine_some [] h = tt
fine_some (e ∷ es) h = (h.0.some, fine_some es h.1)

Fine-sound : (es : List Entry) → Sound es → Fine es
Fine-sound es h = record { keys = fine_keys es h; some = fine_some es h }

module _ (es : List Entry) (low : length (file_of (written FIRST_PLACE (tree es))) ≤ 2 ^ 26)
    (r : Rises es) (h : Sound es) where
  b : List ℕ
  b = bytes es low

  long_enough : FIRST_PLACE ≤ length b
  unfolding b bytes file_of
  long_enough = omega arith

  inside : (root_stands es low).start ≤ length b
  inside = omega (arith, root_start es low, long_enough)

  visited : RowOk b []
      (arrivals b (length b + 1)
      (record { above = length b + 1; is_root = true; link = root_link es low })) (length b + 1)
  unfolding b
  visited =
      let st = root_stands es low in
      let good = Good-sound es r h in
      let fine = Fine-sound es h in
      let place
      = place_is (bytes es low) (longest es) [] es (root_link es low) st good tt fine inside in
      let within
      = q_inside (bytes es low) (longest es) [] es (root_link es low) st good tt fine inside in
      node_visited (length b + 1) b (claim_below (length b + 1) b) (longest es) [] es
      (root_link es low) st good tt fine inside (length b + 1) (length b + 1) true []
      (omega (arith, place, within)) (omega arith) (omega (arith, place, within)) tt
      (node_sound (bytes es low) (longest es) [] es (root_link es low) st good tt fine inside
      (length b + 1) true refl)

  nodes_pass : first (arrival_faults b [] (arrivals b (length b + 1) (root_arrival b))) ≡ None
  unfolding b
  nodes_pass =
      ap (λ l. first (arrival_faults b []
      (arrivals b (length b + 1)
      (record { above = length b + 1; is_root = true; link = l })))) (root_is es low)
      ∙ visited.passes

  magic_is : be b 0 4 ≡ MAGIC
  unfolding b bytes file_of
  magic_is =
      let w = written FIRST_PLACE (tree es) in
      be-number MAGIC (number VERSION ++ (number (offset w.links 0) ++ w.bytes)) (lit< tt)

  version_is : be b 4 4 ≡ VERSION
  unfolding b bytes file_of
  version_is =
      let w = written FIRST_PLACE (tree es) in
      be-at b 4 4 ∙ be-number VERSION (number (offset w.links 0) ++ w.bytes) (lit< tt)

  pub accepted : index_fault (bytes es low) ≡ None
  unfolding index_fault b
  accepted =
      let faults = arrival_faults b [] (arrivals b (length b + 1) (root_arrival b)) in
      (λ i. first (cond (eq-eqb (be b 0 4) MAGIC magic_is i) None (Some BadMagic)
      ∷ cond (eq-eqb (be b 4 4) VERSION version_is i) None (Some BadVersion)
      ∷ cond (le-ltb (length b) FIRST_PLACE long_enough i) (Some (BadNode 8)) None
      ∷ faults))
      ∙ nodes_pass

pub holds : (m : KeyValues) → Rises (entries m) → Sound (entries m) → length (file m) ≤ 2 ^ 26
    → Holds (file m) m
unfolding file bytes
holds m r h low = record {
  accepted = accepted (entries m) low r h;
  values = file-values m r h low;
}
