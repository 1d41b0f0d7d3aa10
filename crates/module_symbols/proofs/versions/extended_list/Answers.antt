use Rattle.std.proofs.Common.{◌≡◌, ◌<◌, ◌≤◌, ◌-◌, ◌*◌, ◌/◌, ◌∷◌, [], length, map, ap, ◌∙◌, arith}
use Rattle.std.proofs.lemmas.List.{length-append}
use Rattle.std.specs.List.{range_with_len}
use Rattle.km_names.specs.Number.{le}
use Rattle.module_symbols.specs.declared.versions.Version.{Version}
use Rattle.module_symbols.specs.Listed.{version_entry}
use Rattle.module_symbols.specs.Versions.{extended_list}
use Rattle.module_symbols.proofs.VersionLemmas.{extended-all, extended-given, extended-none}
use Rattle.module_symbols.proofs.VersionLemmas.{extended-start}
use Rattle.module_symbols.proofs.versions.extended_list.Goals as goal

pub loop-k-init : goal.loop-k-init
loop-k-init c = record {
  list = extended-start c.args.crcs.now c.args.names.now c.new-list.result c.new-list.ensures;
  few = omega (arith, ap length c.new-list.ensures);
}

pub loop-k-preserved : goal.loop-k-preserved
loop-k-preserved c =
    let crcs = c.args.crcs.now in
    let k = c.loop-k.k in
    let name = c.in-Some.name.now in
    let v : Version = record { name = c.in-Some.name; number = c.from-number.result } in
    let less : k < length crcs / 4 = omega arith in
    let same : version_entry v ≡ (name, le crcs (4 * k) 4)
    = ap (λ n. (name, n)) (c.from-number.ensures ∙ c.le_u32_at.ensures) in
    record {
      list
          = rw (c.in_ok-push.ensures.ok, c.after_name-rest.ensures)
          (extended-given (extended_list crcs c.args.names.now) c.loop-k.list v
          c.loop-k.rest.now name (λ j. le crcs (4 * j) 4) k (length crcs / 4) less
          c.in-Some.ensures.string same c.loop-k.invariant.list);
      few
          = omega (
            arith,
            ap length c.in_ok-push.ensures.ok,
            length-append c.loop-k.list (v ∷ []),
            c.loop-k.invariant.few,
          );
    }

pub returns-in_default-clause-list : goal.returns-in_default-clause-list
returns-in_default-clause-list c =
    let crcs = c.args.crcs.now in
    extended-none (extended_list crcs c.args.names.now) c.loop-k.list c.loop-k.rest.now
    (map (λ j. le crcs (4 * j) 4) (range_with_len c.loop-k.k (length crcs / 4 - c.loop-k.k)))
    c.in_default.ensures.string c.loop-k.invariant.list

pub returns-clause-list : goal.returns-clause-list
returns-clause-list c =
    let crcs = c.args.crcs.now in
    let past : length crcs / 4 ≤ c.loop-k.k = omega arith in
    extended-all (extended_list crcs c.args.names.now) c.loop-k.list c.loop-k.rest.now
    (λ j. le crcs (4 * j) 4) c.loop-k.k (length crcs / 4) past c.loop-k.invariant.list
