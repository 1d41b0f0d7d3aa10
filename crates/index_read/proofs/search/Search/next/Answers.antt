use Rattle.std.proofs.Common.{◌≡◌, refl, sym, ap, subst, ◌∙◌, ◌++◌, ◌-◌, length, [], arith, rules}
use Rattle.std.proofs.lemmas.Result.{err_from_is_err_and}
use Rattle.std.proofs.lemmas.List.{append-nil}
use Rattle.glob_match.specs.Progress.{WasRead}
use Rattle.index_read.specs.declared.search.Search.{Search}
use Rattle.index_read.specs.Searches.{NoneMatches, after_branch, count_left, count_after}
use Rattle.index_read.proofs.ReadLemmas.{known_over}
use Rattle.index_read.proofs.SearchLemmas.{found_last, words_within, top_before, seek_up, seek_on}
use Rattle.index_read.proofs.SearchLemmas.{seek_down, saved_slice, omega_size, nothing_waits}
use Rattle.index_read.proofs.SearchLemmas.{no_child, child_counts, count_down, count_push}
use Rattle.index_read.proofs.search.Search.next.Goals as goal

pub loop-level-init : goal.loop-level-init
loop-level-init g c = record {
  on = λ text is s. record { skipped = []; left = is; parts = refl; none = tt; searching = s };
  cost = omega arith;
}

pub words-requires : goal.words-requires
words-requires g c =
    let b = c.args.nodes.now in
    let s = c.requires.searching in
    let h = c.loop-level.invariant.on s.0 s.1.0 s.1.1 in
    let last
    = found_last b s.0 s.1.0 c.loop-level.self h c.pop.new.self.items c.in-Some.level
    c.in-Some.ensures.items in
    omega (
      arith,
      words_within b s.0 c.pop.new.self.items c.in-Some.level c.loop-level.self.saved.items h.left
          last,
      c.len.ensures,
      c.len.type_inv,
      c.loop-level.self.saved.ok.0,
    )

pub overflow_sub-top : goal.overflow_sub-top
overflow_sub-top g c =
    let b = c.args.nodes.now in
    let s = c.requires.searching in
    let h = c.loop-level.invariant.on s.0 s.1.0 s.1.1 in
    let last
    = found_last b s.0 s.1.0 c.loop-level.self h c.pop.new.self.items c.in-Some.level
    c.in-Some.ensures.items in
    omega (
      arith,
      words_within b s.0 c.pop.new.self.items c.in-Some.level c.loop-level.self.saved.items h.left
          last,
      c.len.ensures,
      c.words.ensures,
      c.loop-level.self.saved.ok.0,
    )

pub next_child-requires : goal.next_child-requires
next_child-requires g c =
    let b = c.args.nodes.now in
    let s = c.requires.searching in
    let h = c.loop-level.invariant.on s.0 s.1.0 s.1.1 in
    (found_last b s.0 s.1.0 c.loop-level.self h c.pop.new.self.items c.in-Some.level
    c.in-Some.ensures.items).node

pub loop-level-preserved-in_default-next_child : goal.loop-level-preserved-in_default-next_child
loop-level-preserved-in_default-next_child g c =
    let b = c.args.nodes.now in
    let ps = c.pop.new.self.items in
    let l = c.in-Some.level in
    let now = c.loop-level.self in
    let count = c.len.result - c.words.result in
    let all = ap (count_left b) c.in-Some.ensures.items in
    record {
      on = λ text is s.
          let h = c.loop-level.invariant.on text is s in
          let last = found_last b text is now h ps l c.in-Some.ensures.items in
          seek_up b text is now h ps l last _ refl refl refl
          (c.truncate.ensures.items
          ∙ top_before now.saved.items last.before last.words count last.saved_is
          (omega (
            arith,
            c.len.ensures,
            c.words.ensures,
            last.read.size,
            now.saved.ok.0,
            words_within b text ps l now.saved.items h.left last,
          )))
          (no_child b c.requires.accepted l last.node last.key
          c.in_default-next_child.ensures.none);
      cost = omega (arith, c.loop-level.invariant.cost, all, count_push b ps l);
    }

pub loop-level-smaller-in_default-next_child : goal.loop-level-smaller-in_default-next_child
loop-level-smaller-in_default-next_child g c =
    let b = c.args.nodes.now in
    let all = ap (count_left b) c.in-Some.ensures.items in
    let fewer = ap length c.in-Some.ensures.items in
    omega (arith, all, count_push b c.pop.new.self.items c.in-Some.level, c.in-Some.ensures.len)

pub restore-requires-clause-size : goal.restore-requires-clause-size
restore-requires-clause-size g c =
    let b = c.args.nodes.now in
    let ps = c.pop.new.self.items in
    let l = c.in-Some.level in
    let now = c.loop-level.self in
    let top = c.len.result - c.words.result in
    let d = c.deref.result.now in
    let s = c.requires.searching in
    let h = c.loop-level.invariant.on s.0 s.1.0 s.1.1 in
    let last = found_last b s.0 s.1.0 now h ps l c.in-Some.ensures.items in
    let size
    = omega_size b s.0 ps l now h.left last c.len.result c.words.result c.len.ensures
    c.words.ensures in
    ap length (saved_slice b s.0 ps l now h.left last top d c.deref.ensures.value size)
    ∙ last.read.size

pub enter-requires-clause-ready : goal.enter-requires-clause-ready
enter-requires-clause-ready g c =
    let s = c.requires.searching in
    let h = c.loop-level.invariant.on s.0 s.1.0 s.1.1 in
    record {
      text = s.0;
      over = c.in_ok-restore.ensures.over s.0 h.searching.over;
      known = h.searching.known;
    }

pub enter-requires-clause-whole : goal.enter-requires-clause-whole
enter-requires-clause-whole g c =
    let b = c.args.nodes.now in
    let ps = c.pop.new.self.items in
    let l = c.in-Some.level in
    let now = c.loop-level.self in
    let top = c.len.result - c.words.result in
    let d = c.deref.result.now in
    let s = c.requires.searching in
    let h = c.loop-level.invariant.on s.0 s.1.0 s.1.1 in
    let last = found_last b s.0 s.1.0 now h ps l c.in-Some.ensures.items in
    let size
    = omega_size b s.0 ps l now h.left last c.len.result c.words.result c.len.ensures
    c.words.ensures in
    c.in_ok-restore.ensures.whole s.0 last.key h.searching.over
    (subst (WasRead s.0 last.key l.key)
    (sym (saved_slice b s.0 ps l now h.left last top d c.deref.ensures.value size))
    last.read)

pub returns-in_err-found-clause-cost : goal.returns-in_err-found-clause-cost
returns-in_err-found-clause-cost g c =
    let b = c.args.nodes.now in
    let ps = c.pop.new.self.items in
    let l = c.in-Some.level in
    let now = c.loop-level.self in
    let e = c.in-Some-next_child.ensures in
    let s = c.requires.searching in
    let h = c.loop-level.invariant.on s.0 s.1.0 s.1.1 in
    let last = found_last b s.0 s.1.0 now h ps l c.in-Some.ensures.items in
    let all = ap (count_left b) c.in-Some.ensures.items in
    let fewer
    = child_counts b c.requires.accepted l last.node c.in-Some-next_child.child.0
    c.in-Some-next_child.child.1 last.next e.some e.from e.first e.top in
    let p
    = err_from_is_err_and c.from_residual-in_err-found.result
    c.from_residual-in_err-found.ensures.1 in
    let none = ap (λ r. count_after r b c.push.new.self.items) p.1 in
    omega (
      arith,
      all,
      fewer,
      none,
      count_push b ps l,
      c.loop-level.invariant.cost,
      c.enter.ensures.cost,
    )

pub returns-in_err-descend-clause-cost : goal.returns-in_err-descend-clause-cost
returns-in_err-descend-clause-cost g c =
    let b = c.args.nodes.now in
    let ps = c.pop.new.self.items in
    let l = c.in-Some.level in
    let now = c.loop-level.self in
    let e = c.in-Some-next_child.ensures in
    let s = c.requires.searching in
    let h = c.loop-level.invariant.on s.0 s.1.0 s.1.1 in
    let last = found_last b s.0 s.1.0 now h ps l c.in-Some.ensures.items in
    let all = ap (count_left b) c.in-Some.ensures.items in
    let fewer
    = child_counts b c.requires.accepted l last.node c.in-Some-next_child.child.0
    c.in-Some-next_child.child.1 last.next e.some e.from e.first e.top in
    let p
    = err_from_is_err_and c.from_residual-in_err-descend.result
    c.from_residual-in_err-descend.ensures.1 in
    let none = ap (λ r. count_after r b c.descend.new.self.levels.items) p.1 in
    omega (
      arith,
      all,
      fewer,
      none,
      count_push b ps l,
      c.loop-level.invariant.cost,
      c.in_ok-found.ensures.cost,
    )

pub returns-in-Some-2-clause-finds : goal.returns-in-Some-2-clause-finds
returns-in-Some-2-clause-finds g c text is s =
    let b = c.args.nodes.now in
    let ps = c.pop.new.self.items in
    let l = c.in-Some.level in
    let now = c.loop-level.self in
    let top = c.len.result - c.words.result in
    let d = c.deref.result.now in
    let byte = c.in-Some-next_child.child.0 in
    let at = c.in-Some-next_child.child.1 in
    let f = c.in-Some-2.found in
    let e = c.in-Some-next_child.ensures in
    let h = c.loop-level.invariant.on text is s in
    let last = found_last b text is now h ps l c.in-Some.ensures.items in
    let size
    = omega_size b text ps l now h.left last c.len.result c.words.result c.len.ensures
    c.words.ensures in
    let was
    = subst (WasRead text last.key l.key)
    (sym (saved_slice b text ps l now h.left last top d c.deref.ensures.value size))
    last.read in
    let over = c.in_ok-restore.ensures.over text h.searching.over in
    let entered = c.in_ok-found.ensures in
    let a
    = rw (c.in-Some-2.is) at
    (entered.enters text last.key over (c.in_ok-restore.ensures.read text last.key was)) in
    let new_over = entered.over text over in
    let old : Search
    = record {
      progress = c.enter.new.progress;
      known = c.enter.new.known;
      levels = c.push.new.self;
      saved = now.saved;
    } in
    seek_down b text is now h ps l last c.requires.accepted byte at e.some e.from e.first e.top old
    c.descend.new.self f f.is_leaf
    entered.whole
    new_over
    (known_over b text old.progress old.known entered.ready new_over)
    c.in_ok-push.ensures.items
    refl
    a.node
    a.name
    a.decides
    a.under
    c.in_ok-descend.ensures

pub returns-in-Some-2-clause-cost : goal.returns-in-Some-2-clause-cost
returns-in-Some-2-clause-cost g c =
    let b = c.args.nodes.now in
    let ps = c.pop.new.self.items in
    let l = c.in-Some.level in
    let now = c.loop-level.self in
    let top = c.len.result - c.words.result in
    let d = c.deref.result.now in
    let byte = c.in-Some-next_child.child.0 in
    let at = c.in-Some-next_child.child.1 in
    let f = c.in-Some-2.found in
    let e = c.in-Some-next_child.ensures in
    let s = c.requires.searching in
    let h = c.loop-level.invariant.on s.0 s.1.0 s.1.1 in
    let last = found_last b s.0 s.1.0 now h ps l c.in-Some.ensures.items in
    let size
    = omega_size b s.0 ps l now h.left last c.len.result c.words.result c.len.ensures
    c.words.ensures in
    let was
    = subst (WasRead s.0 last.key l.key)
    (sym (saved_slice b s.0 ps l now h.left last top d c.deref.ensures.value size))
    last.read in
    let over = c.in_ok-restore.ensures.over s.0 h.searching.over in
    let entered
    = rw (c.in-Some-2.is) at
    (c.in_ok-found.ensures.enters s.0 last.key over
    (c.in_ok-restore.ensures.read s.0 last.key was)) in
    let all = ap (count_left b) c.in-Some.ensures.items in
    let old : Search
    = record {
      progress = c.enter.new.progress;
      known = c.enter.new.known;
      levels = c.push.new.self;
      saved = now.saved;
    } in
    let fewer
    = count_down b c.requires.accepted ps l last.node byte at last.next e.some e.from e.first
    e.top old c.descend.new.self f.node f.is_leaf c.in_ok-push.ensures.items entered.name
    c.in_ok-descend.ensures in
    omega (arith, all, fewer, c.loop-level.invariant.cost, c.in_ok-found.ensures.cost)

pub loop-level-preserved : goal.loop-level-preserved
loop-level-preserved g c =
    let b = c.args.nodes.now in
    let ps = c.pop.new.self.items in
    let l = c.in-Some.level in
    let now = c.loop-level.self in
    let top = c.len.result - c.words.result in
    let d = c.deref.result.now in
    let byte = c.in-Some-next_child.child.0 in
    let at = c.in-Some-next_child.child.1 in
    let e = c.in-Some-next_child.ensures in
    let t = c.requires.searching in
    let first_last
    = found_last b t.0 t.1.0 now (c.loop-level.invariant.on t.0 t.1.0 t.1.1) ps l
    c.in-Some.ensures.items in
    let all = ap (count_left b) c.in-Some.ensures.items in
    let levels = ap (count_left b) c.in_ok-push.ensures.items in
    let fewer
    = child_counts b c.requires.accepted l first_last.node byte at first_last.next e.some e.from
    e.first e.top in
    record {
      on = λ text is s.
          let h = c.loop-level.invariant.on text is s in
          let last = found_last b text is now h ps l c.in-Some.ensures.items in
          let size
          = omega_size b text ps l now h.left last c.len.result c.words.result c.len.ensures
          c.words.ensures in
          let was
          = subst (WasRead text last.key l.key)
          (sym (saved_slice b text ps l now h.left last top d c.deref.ensures.value size))
          last.read in
          let over = c.in_ok-restore.ensures.over text h.searching.over in
          let lost
          = rw (c.in_default-2.is) at
          (c.in_ok-found.ensures.enters text last.key over
          (c.in_ok-restore.ensures.read text last.key was)) in
          seek_on b text is now h ps l last c.requires.accepted byte at e.some e.from e.first e.top
          _ c.in_ok-found.ensures.whole (c.in_ok-found.ensures.over text over)
          (known_over b text c.enter.new.progress c.enter.new.known c.in_ok-found.ensures.ready
          (c.in_ok-found.ensures.over text over)) c.in_ok-push.ensures.items refl lost;
      cost
          = omega (
            arith,
            all,
            levels,
            fewer,
            count_push b ps l,
            count_push b ps (after_branch l byte),
            c.loop-level.invariant.cost,
            c.in_ok-found.ensures.cost,
          );
    }

pub loop-level-smaller : goal.loop-level-smaller
loop-level-smaller g c =
    let b = c.args.nodes.now in
    let ps = c.pop.new.self.items in
    let l = c.in-Some.level in
    let now = c.loop-level.self in
    let byte = c.in-Some-next_child.child.0 in
    let e = c.in-Some-next_child.ensures in
    let t = c.requires.searching in
    let last
    = found_last b t.0 t.1.0 now (c.loop-level.invariant.on t.0 t.1.0 t.1.1) ps l
    c.in-Some.ensures.items in
    let all = ap (count_left b) c.in-Some.ensures.items in
    let levels = ap (count_left b) c.in_ok-push.ensures.items in
    let fewer
    = child_counts b c.requires.accepted l last.node byte c.in-Some-next_child.child.1 last.next
    e.some e.from e.first e.top in
    omega (
      arith,
      all,
      levels,
      fewer,
      count_push b ps l,
      count_push b ps (after_branch l byte),
      c.in-Some.ensures.len,
      c.in_ok-push.ensures.len,
    )

pub returns-clause-finds : goal.returns-clause-finds
returns-clause-finds g c text is s =
    let b = c.args.nodes.now in
    let h = c.loop-level.invariant.on text is s in
    let none_there : c.loop-level.self.levels.items ≡ [] = search rules in
    let nothing : h.left ≡ []
    = nothing_waits b text c.loop-level.self.levels.items c.loop-level.self.saved.items h.left
    h.searching.waits none_there in
    subst (NoneMatches text)
    (sym (h.parts ∙ ap (λ xs. h.skipped ++ xs) nothing ∙ append-nil h.skipped)) h.none
