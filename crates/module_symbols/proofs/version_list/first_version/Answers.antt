use Rattle.std.proofs.Common.{◌≡◌, ◌+◌, ◌-◌, ◌<◌, List, [], ℕ, find, length, map, take, drop}
use Rattle.std.proofs.Common.{sym, ap, ◌∙◌, arith}
use Rattle.std.proofs.lemmas.List.{take_rest}
use Rattle.std.specs.Str.{bytes_eq}
use Rattle.module_symbols.specs.declared.versions.Version.{Version}
use Rattle.module_symbols.specs.Listed.{version_entry}
use Rattle.module_symbols.proofs.VersionLemmas.{named-at, named-nowhere, passed-marks, passed-name}
use Rattle.module_symbols.proofs.VersionLemmas.{places-left}
use Rattle.module_symbols.proofs.version_list.first_version.Goals as goal

abbrev none : Version
none = record { name = record { ref_ptr = (0, 0); now = [] }; number = 0 }

pub returns-then-eq : goal.returns-then-eq
returns-then-eq c =
    let list = c.args.entries.now in
    let marks = c.args.marks.now in
    let name = c.args.name.now in
    let from = c.loop-place.from in
    let place = c.in-Some.place in
    let within : from + place < length list
    = omega (arith, c.in-Some.ensures.0.high, places-left list marks from c.requires) in
    named-at list name (from + place) none within (sym c.eq.ensures ∙ c.if-eq.true)
    (passed-marks list marks name _ from place c.mark-wanted.result _ c.requires
    c.mark-wanted.ensures (take_rest marks from) c.in-Some.ensures.0.before (omega (arith, within))
    c.loop-place.invariant.found)

pub loop-place-preserved : goal.loop-place-preserved
loop-place-preserved c =
    let list = c.args.entries.now in
    let marks = c.args.marks.now in
    let name = c.args.name.now in
    let from = c.loop-place.from in
    let place = c.in-Some.place in
    let here : from + place < length list
    = omega (arith, c.in-Some.ensures.0.high, places-left list marks from c.requires) in
    let more : from + place + 1 ≡ from + (place + 1) = omega arith in
    record {
      within = omega (arith, here);
      found = passed-name list name (from + place) none _ here (sym c.eq.ensures ∙ c.if-eq.false)
          (passed-marks list marks name _ from place c.mark-wanted.result _ c.requires
          c.mark-wanted.ensures (take_rest marks from) c.in-Some.ensures.0.before (omega (arith, here))
          c.loop-place.invariant.found)
          ∙ ap (λ k. find (λ (e : List ℕ × ℕ). bytes_eq e.0 name) (map version_entry (drop k list)))
          more;
    }

pub returns : goal.returns
returns c =
    let list = c.args.entries.now in
    let marks = c.args.marks.now in
    let name = c.args.name.now in
    let from = c.loop-place.from in
    let left = places-left list marks from c.requires in
    let all : from + length (take (length marks - from) (drop from marks)) ≡ length list
    = omega (arith, left, c.loop-place.invariant.within) in
    named-nowhere list name
    (passed-marks list marks name _ from _ c.mark-wanted.result _ c.requires c.mark-wanted.ensures
    (take_rest marks from) c.in_default.ensures (omega (arith, all)) c.loop-place.invariant.found
    ∙ ap (λ k. find (λ (e : List ℕ × ℕ). bytes_eq e.0 name) (map version_entry (drop k list))) all)
