-- The plan as a queue of requests makes it.
use Rattle.std.specs.Prelude.{ℕ, zero, suc, List, [], ◌∷◌, ◌++◌}
use Rattle.std.specs.List.{flat_map}
use Rattle.relation_order.specs.Sets.{Relation}
use Rattle.plan_order.specs.Plan.{group, singles}

-- What is done after at most k requests of a queue. When a group is done, what is asked for after
-- its members joins the queue, each module a request of its own, in the group's order.
abbrev pub queued : Relation → List ℕ → (ℕ → List ℕ) → ℕ → List ℕ → List (List ℕ) → List ℕ
queued r set post zero done queue = done
queued r set post (suc k) done [] = done
queued r set post (suc k) done (request ∷ queue) =
    queued r set post k (done ++ group r set done request)
    (queue ++ singles (flat_map post (group r set done request)))
