-- Plans: which modules are loaded, and in which order. The relation `r` says what comes before a
-- module. `set` has the modules that aren't loaded, and `post` the modules that are asked for after
-- a module. A request is a list of modules. modprobe(8), modprobe.d(5), "softdep".
use Rattle.std.specs.Prelude.{ℕ, zero, suc, List, [], ◌∷◌, ◌++◌, Bool, ◌||◌, not, map, length}
use Rattle.std.specs.Prelude.{filter, slice_index_or}
use Rattle.std.specs.List.{fold, list_any}
use Rattle.relation_order.specs.Sets.{Relation, has}
use Rattle.relation_order.specs.Spread.{spread}
use Rattle.relation_order.specs.Least.{least_order}

-- Whether one of the requests has a module.
abbrev pub requested : List (List ℕ) → ℕ → Bool
requested requests x = list_any (λ request. has request x) requests

-- Whether a module comes before another, or is asked for after it.
abbrev pub needs : Relation → (ℕ → List ℕ) → Relation
needs r post x y = r x y || has (post x) y

-- The least set that has the requested modules, and with each member all that it needs.
abbrev pub planned : Relation → List ℕ → (ℕ → List ℕ) → List (List ℕ) → List ℕ
planned r set post requests = spread (needs r post) set (requested requests)

-- The modules that aren't done.
abbrev pub undone : List ℕ → List ℕ → List ℕ
undone set done = filter (λ x. not (has done x)) set

-- The members of a request's group: its modules and all that is reached from them, without what is
-- done.
abbrev pub members : Relation → List ℕ → List ℕ → List ℕ → List ℕ
members r set done request = spread r (undone set done) (has request)

-- The group of a request, after what is done: again and again the least member such that nothing
-- left comes before it.
abbrev pub group : Relation → List ℕ → List ℕ → List ℕ → List ℕ
group r set done request = least_order r (members r set done request)

-- What is done after a request's group.
abbrev pub with_group : Relation → List ℕ → List ℕ → List ℕ → List ℕ
with_group r set done request = done ++ group r set done request

-- What is done after the groups of some requests, one after another.
abbrev pub with_groups : Relation → List ℕ → List ℕ → List (List ℕ) → List ℕ
with_groups r set done requests = fold (with_group r set) done requests

-- Each module as a request.
abbrev pub singles : List ℕ → List (List ℕ)
singles xs = map (λ x. x ∷ []) xs

-- What is asked for after the module at a place of a plan, and nothing past its end.
abbrev pub post_at : (ℕ → List ℕ) → List ℕ → ℕ → List ℕ
post_at post plan k = slice_index_or (map post plan) k []

-- The plan so far: the groups of the requests, and of what is asked for after the first modules of
-- the plan.
abbrev pub plan_after : Relation → List ℕ → (ℕ → List ℕ) → List (List ℕ) → ℕ → List ℕ
plan_after r set post requests zero = with_groups r set [] requests
plan_after r set post requests (suc k) =
    with_groups r set (plan_after r set post requests k)
    (singles (post_at post (plan_after r set post requests k) k))

-- The plan: the groups of the requests, and then the groups of what is asked for after the plan's
-- modules, in the plan's order.
unfoldable pub plan : Relation → List ℕ → (ℕ → List ℕ) → List (List ℕ) → List ℕ
plan r set post requests = plan_after r set post requests (length set)
