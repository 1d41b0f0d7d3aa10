use Rattle.std.proofs.Common.{◌∷◌, [], length, refl, ap, arith}
use Rattle.std.proofs.lemmas.List.{length-append}
use Rattle.module_symbols.specs.declared.versions.Version.{Version}
use Rattle.module_symbols.proofs.VersionLemmas.{entry-given, entry-silent}
use Rattle.module_symbols.proofs.versions.entry_list.Goals as goal
use Rattle.module_symbols.proofs.versions.entry_list.Goals.{in-Some+in_ok-push, in_default}

pub loop-k-preserved : goal.loop-k-preserved
loop-k-preserved c =
    elim c.match-entry_name.branch [
      | in-Some+in_ok-push w ↦
          let v : Version = record { name = w.in-Some.name; number = w.le_u64_at-number.result } in
          record {
            list
                = rw (w.list-is, w.in_ok-push.ensures.ok)
                (entry-given c.args.bytes.now c.loop-k.k c.loop-k.list v w.in-Some.name.now
                w.le_u64_at-number.result c.loop-k.invariant.list w.in-Some.ensures
                w.le_u64_at-number.ensures refl);
            few
                = omega (
                  arith,
                  ap length w.list-is,
                  ap length w.in_ok-push.ensures.ok,
                  length-append c.loop-k.list (v ∷ []),
                  c.loop-k.invariant.few,
                );
          }
      | in_default w ↦ record {
        list
            = rw w.list-is
            (entry-silent c.args.bytes.now c.loop-k.k c.loop-k.list c.loop-k.invariant.list
            w.in_default.ensures);
        few = omega (arith, ap length w.list-is, c.loop-k.invariant.few);
      }
    ]
