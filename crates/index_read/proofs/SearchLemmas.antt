-- A search over the nodes of an index, level by level.
use Rattle.std.proofs.Common.{◌≡◌, refl, sym, ap, subst, ◌∙◌, ℕ, zero, suc, ◌+◌, ◌-◌, ◌<◌, ◌≤◌}
use Rattle.std.proofs.Common.{List, [], ◌∷◌, ◌++◌, length, vec_len, take, drop, Bool, true, false}
use Rattle.std.proofs.Common.{◌↔◌, IsTrue, Option, Some, None, arith, append_assoc, length-append}
use Rattle.std.proofs.lemmas.List.{append-nil, take_at, take_all}
use Rattle.index_format.specs.Link.{place_of}
use Rattle.index_format.specs.Node.{root, prefix, child}
use Rattle.index_format.specs.Check.{index_fault}
use Rattle.index_format.specs.Nodes.{IsNode, top, below as below_node}
use Rattle.index_nodes.specs.Fields.{link_of, IsNodeOf}
use Rattle.index_nodes.specs.declared.node.Node.{Node}
use Rattle.index_nodes.proofs.SoundNodes.{node_sound, child_below}
use Rattle.glob_pattern.specs.Pattern.{Matches}
use Rattle.glob_match.specs.Progress.{IsWhole, IsOver, WasRead}
use Rattle.glob_match.specs.declared.progress.Saved.{Saved}
use Rattle.index_read.specs.declared.search.Branch.{Branch}
use Rattle.index_read.specs.declared.search.FoundNode.{FoundNode}
use Rattle.index_read.specs.declared.search.Search.{Search}
use Rattle.index_read.specs.Keys.{Item, all_items, on_child, branches, key_bytes, items}
use Rattle.index_read.specs.Searches.{IsLost, NoneMatches, below, Waits, bottom, above, branch_of}
use Rattle.index_read.specs.Searches.{after_branch, AreKnown, IsWholeOrLeaf, DescendsTo}
use Rattle.index_read.specs.Searches.{IsSearching, Comes, count_left}
use Rattle.index_read.proofs.KeyLemmas.{branches_none, branches_some, items-node, items-begin}
use Rattle.index_read.proofs.KeyLemmas.{branches-begin, Begins}
use Rattle.index_read.proofs.OrderLemmas.{all_weaker}

-- ---- keys that begin like a lost one

pub none_below : (text front : List ℕ) (is : List Item) → IsLost text front → Begins front is
    → NoneMatches text is
none_below text front is lost from =
    all_weaker (λ (item : Item). (rest : List ℕ) × (item.0 ≡ front ++ rest))
    (λ (item : Item). ¬ Matches item.0 text)
    (λ item h m. lost h.0 (subst (λ k. Matches k text) h.1 m)) is from

pub none_append : (text : List ℕ) (xs ys : List Item) → NoneMatches text xs → NoneMatches text ys
    → NoneMatches text (xs ++ ys)
none_append text [] ys h k = k
none_append text (x ∷ xs) ys h k = (h.0, none_append text xs ys h.1 k)

-- ---- how many nodes are below a node, whatever its key

same_count_branches : (f : ℕ → List ℕ → List Item) (b : List ℕ) (link : ℕ) (key other : List ℕ)
    (byte n : ℕ)
    → ((next : ℕ) (under over : List ℕ) → length (f next under) ≡ length (f next over))
    → length (branches f b link key byte n) ≡ length (branches f b link other byte n)
unfolding branches
same_count_branches f b link key other byte zero h = refl
same_count_branches f b link key other byte (suc n) h =
    length-append (on_child (child b link byte) (λ next. f next (key ++ byte ∷ [])))
    (branches f b link key (byte + 1) n)
    ∙ (λ i. same_child (child b link byte) i
    + same_count_branches f b link key other (byte + 1) n h i)
    ∙ sym (length-append (on_child (child b link byte) (λ next. f next (other ++ byte ∷ [])))
    (branches f b link other (byte + 1) n))
  where
    same_child : (o : Option ℕ)
        → length (on_child o (λ next. f next (key ++ byte ∷ [])))
        ≡ length (on_child o (λ next. f next (other ++ byte ∷ [])))
    same_child None = refl
    same_child (Some next) = h next (key ++ byte ∷ []) (other ++ byte ∷ [])

pub same_count : (b : List ℕ) (d link : ℕ) (key other : List ℕ)
    → length (items b d link key) ≡ length (items b d link other)
unfolding items
same_count b zero link key other = refl
same_count b (suc d) link key other =
    ap suc (same_count_branches (items b d) b link (key ++ prefix b link) (other ++ prefix b link) 0
    key_bytes (same_count b d))

pub same_below : (b : List ℕ) (l : Branch) (key other : List ℕ)
    → length (below b l key) ≡ length (below b l other)
same_below b l key other =
    same_count_branches (items b (place_of (link_of l.node))) b (link_of l.node) key other l.next
    (key_bytes - l.next) (same_count b (place_of (link_of l.node)))

pub count_push : (b : List ℕ) (ls : List Branch) (l : Branch)
    → count_left b (ls ++ l ∷ []) ≡ count_left b ls + length (below b l [])
count_push b [] l = omega arith
count_push b (m ∷ ls) l = omega (arith, count_push b ls l)

pub count_is : (b text : List ℕ) (ls : List Branch) (saved : List ℕ) (is : List Item)
    → Waits b text ls saved is → length is ≡ count_left b ls
count_is b text _ _ _ bottom = refl
count_is b text _ _ _ (above {ls = ls} {saved = saved} {is = is} l words key w node next read) =
    omega (
      arith,
      length-append (below b l key) is,
      same_below b l key [],
      count_is b text ls saved is w,
      count_push b ls l,
    )

-- ---- the last level

snoc_same : (ls ms : List Branch) (l m : Branch) → ls ++ l ∷ [] ≡ ms ++ m ∷ [] → (ls ≡ ms) × (l ≡ m)
snoc_same [] [] l m e = (refl, cc)
snoc_same [] (n ∷ ms) l m e =
    let size = ap length e in absurd (omega (arith, size, length-append ms (m ∷ [])))
snoc_same (k ∷ ls) [] l m e =
    let size = ap length e in absurd (omega (arith, size, length-append ls (l ∷ [])))
snoc_same (k ∷ ls) (n ∷ ms) l m e =
    let head : k ≡ n = cc in
    let tail : ls ++ l ∷ [] ≡ ms ++ m ∷ [] = cc in
    let rest = snoc_same ls ms l m tail in
    ((λ i. head i ∷ rest.0 i), rest.1)

-- What the last level adds.
pub record Last (b text : List ℕ) (ls : List Branch) (l : Branch) (saved : List ℕ) (is : List Item)
    : Type 0 where
  pub before : List ℕ
  pub words : List ℕ
  pub key : List ℕ
  pub left : List Item
  pub saved_is : saved ≡ before ++ words
  pub items_are : is ≡ below b l key ++ left
  pub waits : Waits b text ls before left
  pub node : IsNodeOf b l.node
  pub next : l.next ≤ key_bytes
  pub read : WasRead text key l.key words

pub last_level : (b text : List ℕ) (ls : List Branch) (l : Branch) (all : List Branch)
    (saved : List ℕ) (is : List Item)
    → Waits b text all saved is → all ≡ ls ++ l ∷ [] → Last b text ls l saved is
last_level b text ls l _ _ _ bottom e =
    let size = ap length e in absurd (omega (arith, size, length-append ls (l ∷ [])))
last_level b text ls l _ _ _
    (above {ls = ms} {saved = saved} {is = is} m words key w node next read) e
    =
    let same = snoc_same ms ls m l e in
    record {
      before = saved;
      words = words;
      key = key;
      left = is;
      saved_is = refl;
      items_are = ap (λ k. below b k key ++ is) same.1;
      waits = subst (λ ks. Waits b text ks saved is) same.0 w;
      node = subst (λ k. IsNodeOf b k.node) same.1 node;
      next = subst (λ k. k.next ≤ key_bytes) same.1 next;
      read = subst (λ k. WasRead text key k.key words) same.1 read;
    }

-- ---- the children of a level

module _ (b : List ℕ) (accepted : index_fault b ≡ None) (l : Branch) (node : IsNodeOf b l.node)
  where
    pub no_child : (key : List ℕ) → ((k : ℕ) → l.next ≤ k → child b (link_of l.node) k ≡ None)
        → below b l key ≡ []
    no_child key none
        = branches_none (items b (place_of (link_of l.node))) b (link_of l.node) key l.next
        (key_bytes - l.next) none

    module _ (byte at : ℕ) (next : l.next ≤ key_bytes)
        (is : child b (link_of l.node) byte ≡ Some at)
        (from : l.next ≤ byte)
        (first : (k : ℕ) → l.next ≤ k → k < byte → child b (link_of l.node) k ≡ None)
        (ascii : byte ≤ 127) where
      -- The child with what is below it, and the other children.
      pub first_child : (key : List ℕ)
          → below b l key
          ≡ items b (place_of (link_of l.node)) at (key ++ byte ∷ [])
          ++ below b (after_branch l byte) key
      first_child key =
          let inside : l.next + (key_bytes - l.next) ≡ key_bytes = omega (arith, next) in
          let count : l.next + (key_bytes - l.next) - (byte + 1) ≡ key_bytes - (byte + 1)
          = ap (λ k. k - (byte + 1)) inside in
          branches_some (items b (place_of (link_of l.node))) b (link_of l.node) key l.next
          (key_bytes - l.next) byte at from (omega (arith, inside, ascii)) first is
          ∙ ap (λ n. items b (place_of (link_of l.node)) at (key ++ byte ∷ [])
          ++ branches (items b (place_of (link_of l.node))) b (link_of l.node) key (byte + 1) n)
          count

      pub child_node : IsNode b at
      child_node = below_node byte at node.node is

      -- The child, and what is below it.
      pub child_parts : (key : List ℕ) (n : Node) (saved : Saved) → link_of n ≡ at
          → items b (place_of (link_of l.node)) at (key ++ byte ∷ [])
          ≡ ((key ++ byte ∷ []) ++ prefix b at, link_of n)
          ∷ below b (branch_of n saved) ((key ++ byte ∷ []) ++ prefix b at)
      child_parts key n saved name =
          items-node b accepted (place_of (link_of l.node)) at (key ++ byte ∷ []) child_node
          (child_below b accepted (link_of l.node) byte at node.node is)
          ∙ ap (λ k. ((key ++ byte ∷ []) ++ prefix b at, k)
          ∷ branches (items b (place_of k)) b k ((key ++ byte ∷ []) ++ prefix b at) 0 key_bytes)
          (sym name)

      -- If the child's key is lost, then so is what is below it.
      pub child_lost : (text key : List ℕ) → IsLost text ((key ++ byte ∷ []) ++ prefix b at)
          → NoneMatches text (items b (place_of (link_of l.node)) at (key ++ byte ∷ []))
      child_lost text key lost =
          let whole = (key ++ byte ∷ []) ++ prefix b at in
          subst (NoneMatches text)
          (sym (items-node b accepted (place_of (link_of l.node)) at (key ++ byte ∷ []) child_node
          (child_below b accepted (link_of l.node) byte at node.node is)))
          (none_below text whole
          ((whole, at) ∷ branches (items b (place_of at)) b at whole 0 key_bytes) lost (
            ([], sym (append-nil whole)),
            branches-begin (items b (place_of at)) b at whole 0 key_bytes
                (items-begin b (place_of at)),
          ))

      -- There is at least the child.
      pub child_counts : length (below b (after_branch l byte) []) + 1 ≤ length (below b l [])
      child_counts =
          let all = ap length (first_child []) in
          let one
          = ap length (items-node b accepted (place_of (link_of l.node)) at ([] ++ byte ∷ [])
          child_node (child_below b accepted (link_of l.node) byte at node.node is)) in
          omega (
            arith,
            all,
            one,
            length-append (items b (place_of (link_of l.node)) at ([] ++ byte ∷ []))
                (below b (after_branch l byte) []),
          )

-- ---- a node without children

leaf_items : (b : List ℕ) → index_fault b ≡ None → (d link : ℕ) (key : List ℕ) → IsNode b link
    → place_of link < d → ((k : ℕ) → child b link k ≡ None)
    → items b d link key ≡ (key ++ prefix b link, link) ∷ []
leaf_items b accepted d link key node deep none =
    let whole = key ++ prefix b link in
    items-node b accepted d link key node deep
    ∙ ap (λ xs. (whole, link) ∷ xs)
    (branches_none (items b (place_of link)) b link whole 0 key_bytes (λ k le. none k))

-- ---- the root

pub root_parts : (b : List ℕ) → index_fault b ≡ None → (n : Node) (saved : Saved)
    → link_of n ≡ root b
    → all_items b
    ≡ (prefix b (link_of n), link_of n) ∷ below b (branch_of n saved) (prefix b (link_of n))
root_parts b accepted n saved name =
    let node : IsNode b (root b) = top in
    let sound = node_sound b accepted (root b) node in
    items-node b accepted (length b + 1) (root b) [] node (omega (arith, sound.within))
    ∙ ap (λ k. (prefix b k, k) ∷ branches (items b (place_of k)) b k (prefix b k) 0 key_bytes)
    (sym name)

begins_root : (b : List ℕ) → index_fault b ≡ None → Begins (prefix b (root b)) (all_items b)
begins_root b accepted =
    let node : IsNode b (root b) = top in
    let sound = node_sound b accepted (root b) node in
    let whole = prefix b (root b) in
    subst (Begins whole)
    (sym (items-node b accepted (length b + 1) (root b) [] node (omega (arith, sound.within)))) (
      ([], sym (append-nil whole)),
      branches-begin (items b (place_of (root b))) b (root b) whole 0 key_bytes
          (items-begin b (place_of (root b))),
    )

pub root_lost : (b : List ℕ) → index_fault b ≡ None → (text : List ℕ) (link : ℕ) → link ≡ root b
    → IsLost text (prefix b link) → NoneMatches text (all_items b)
root_lost b accepted text link name lost =
    let front : prefix b link ≡ prefix b (root b) = ap (prefix b) name in
    none_below text (prefix b (root b)) (all_items b) (subst (IsLost text) front lost)
    (begins_root b accepted)

-- The root is reached.
pub root_comes : (b text : List ℕ) (link : ℕ) (old new : Search) (f : FoundNode) (leaf : Bool)
    → index_fault b ≡ None → link ≡ root b → link_of f.node ≡ link → IsWhole old.progress
    → IsOver old.progress text → AreKnown b text old.known → old.levels.items ≡ []
    → old.saved.items ≡ [] → IsNodeOf b f.node → (IsTrue f.is_match ↔ Matches (prefix b link) text)
    → IsWholeOrLeaf b text (prefix b link) link old.progress leaf → DescendsTo old new f.node leaf
    → Comes b text (all_items b) new f
root_comes b text link old new f true accepted is_root name whole over known levels saved node
    decides none same
    =
    let top_node : IsNode b (root b) = top in
    let sound = node_sound b accepted (root b) top_node in
    record {
      skipped = [];
      key = prefix b link;
      left = [];
      parts =
          leaf_items b accepted (length b + 1) (root b) [] top_node (omega (arith, sound.within))
          (λ k. ap (λ n. child b n k) (sym is_root) ∙ none k)
          ∙ (λ i. (prefix b (sym is_root i), (sym is_root ∙ sym name) i) ∷ []);
      none = tt;
      node = node;
      decides = decides;
      searching = subst (λ s. IsSearching b text s []) (sym same)
          (record {
            whole = whole;
            over = over;
            known = known;
            waits
                = subst (λ ls. Waits b text ls old.saved.items []) (sym levels)
                (subst (λ ws. Waits b text [] ws []) (sym saved) bottom);
          });
    }
root_comes b text link old new f false accepted is_root name whole over known levels saved node
    decides read down
    =
    let key = prefix b link in
    let l = branch_of f.node down.key in
    let here : prefix b (link_of f.node) ≡ key = ap (prefix b) name in
    record {
      skipped = [];
      key = key;
      left = below b l key ++ [];
      parts =
          root_parts b accepted f.node down.key (name ∙ is_root)
          ∙ (λ i. (here i, link_of f.node) ∷ below b l (here i))
          ∙ ap (λ xs. (key, link_of f.node) ∷ xs) (sym (append-nil (below b l key)));
      none = tt;
      node = node;
      decides = decides;
      searching = record {
        whole = subst IsWhole (sym down.same) whole;
        over = subst (λ p. IsOver p text) (sym down.same) over;
        known = subst (AreKnown b text) (sym down.known) known;
        waits
            = subst (λ ks. Waits b text ks new.saved.items (below b l key ++ []))
            (sym (down.levels ∙ ap (λ ks. ks ++ l ∷ []) levels))
            (subst (λ ws. Waits b text ([] ++ l ∷ []) ws (below b l key ++ []))
            (sym (down.saved.added ∙ ap (λ ws. ws ++ down.saved.words) saved))
            (above l down.saved.words key bottom node (omega arith)
            (down.saved.read text key over read)));
      };
    }

-- ---- a search that goes on

-- Some nodes were passed over, and the others are still to come.
pub record Sought (b text : List ℕ) (is : List Item) (s : Search) : Type 0 where
  pub skipped : List Item
  pub left : List Item
  pub parts : is ≡ skipped ++ left
  pub none : NoneMatches text skipped
  pub searching : IsSearching b text s left

pub top_before : (saved before words : List ℕ) (count : ℕ) → saved ≡ before ++ words
    → count + length words ≡ length saved → take count saved ≡ before
top_before saved before words count e size =
    let all = ap length e in
    ap (take count) e
    ∙ take_at before words count (omega (arith, all, size, length-append before words))

pub top_words : (saved before words : List ℕ) (count : ℕ) → saved ≡ before ++ words
    → count + length words ≡ length saved → take (length saved - count) (drop count saved) ≡ words
top_words saved before words count e size =
    let all = ap length e in
    let here : count ≡ length before = omega (arith, all, size, length-append before words) in
    let rest : drop count saved ≡ words = (λ i. drop (here i) (e i)) ∙ drop_at before words in
    ap (take (length saved - count)) rest
    ∙ take_all (length saved - count) words (omega (arith, size))
  where
    drop_at : (xs ys : List ℕ) → drop (length xs) (xs ++ ys) ≡ ys
    drop_at [] ys = refl
    drop_at (x ∷ xs) ys = drop_at xs ys

module _ (b text : List ℕ) (is : List Item) (now : Search) (h : Sought b text is now)
    (ls : List Branch) (l : Branch) (last : Last b text ls l now.saved.items h.left) where
  -- A level without a child is left.
  pub seek_up : (new : Search) → new.progress ≡ now.progress → new.known ≡ now.known
      → new.levels.items ≡ ls → new.saved.items ≡ last.before → below b l last.key ≡ []
      → Sought b text is new
  seek_up new same known levels saved none = record {
    skipped = h.skipped;
    left = last.left;
    parts = h.parts ∙ ap (λ xs. h.skipped ++ xs) (last.items_are ∙ ap (λ xs. xs ++ last.left) none);
    none = h.none;
    searching = record {
      whole = subst IsWhole (sym same) h.searching.whole;
      over = subst (λ p. IsOver p text) (sym same) h.searching.over;
      known = subst (AreKnown b text) (sym known) h.searching.known;
      waits
          = subst (λ ks. Waits b text ks new.saved.items last.left) (sym levels)
          (subst (λ ws. Waits b text ls ws last.left) (sym saved) last.waits);
    };
  }

  module _ (accepted : index_fault b ≡ None) (byte at : ℕ)
      (is_child : child b (link_of l.node) byte ≡ Some at) (from : l.next ≤ byte)
      (first : (k : ℕ) → l.next ≤ k → k < byte → child b (link_of l.node) k ≡ None)
      (ascii : byte ≤ 127) where
    children : List Item
    children = items b (place_of (link_of l.node)) at (last.key ++ byte ∷ [])

    others : List Item
    others = below b (after_branch l byte) last.key ++ last.left

    unfolding_parts : h.left ≡ children ++ others
    unfolding children others
    unfolding_parts =
        last.items_are
        ∙ ap (λ xs. xs ++ last.left)
        (first_child b accepted l last.node byte at last.next is_child from first ascii
        last.key)
        ∙ append_assoc (items b (place_of (link_of l.node)) at (last.key ++ byte ∷ []))
        (below b (after_branch l byte) last.key) last.left

    waits_on : Waits b text (ls ++ after_branch l byte ∷ []) now.saved.items others
    unfolding others
    waits_on =
        subst (λ ws. Waits b text (ls ++ after_branch l byte ∷ []) ws
        (below b (after_branch l byte) last.key ++ last.left)) (sym last.saved_is)
        (above (after_branch l byte) last.words last.key last.waits last.node (omega (arith, ascii))
        last.read)

    -- A child is passed over.
    pub seek_on : (new : Search) → IsWhole new.progress → IsOver new.progress text
        → AreKnown b text new.known → new.levels.items ≡ ls ++ after_branch l byte ∷ []
        → new.saved.items ≡ now.saved.items → IsLost text ((last.key ++ byte ∷ []) ++ prefix b at)
        → Sought b text is new
    unfolding children
    seek_on new whole over known levels saved lost = record {
      skipped = h.skipped ++ children;
      left = others;
      parts
          = h.parts ∙ ap (λ xs. h.skipped ++ xs) unfolding_parts
          ∙ sym (append_assoc h.skipped children others);
      none
          = none_append text h.skipped children h.none
          (child_lost b accepted l last.node byte at last.next is_child from first ascii text
          last.key lost);
      searching = record {
        whole = whole;
        over = over;
        known = known;
        waits
            = subst (λ ks. Waits b text ks new.saved.items others) (sym levels)
            (subst (λ ws. Waits b text (ls ++ after_branch l byte ∷ []) ws others) (sym saved)
            waits_on);
      };
    }

    -- A child is reached.
    pub seek_down : (old new : Search) (f : FoundNode) (leaf : Bool) → IsWhole old.progress
        → IsOver old.progress text → AreKnown b text old.known
        → old.levels.items ≡ ls ++ after_branch l byte ∷ [] → old.saved.items ≡ now.saved.items
        → IsNodeOf b f.node → link_of f.node ≡ at
        → (IsTrue f.is_match ↔ Matches ((last.key ++ byte ∷ []) ++ prefix b at) text)
        → IsWholeOrLeaf b text ((last.key ++ byte ∷ []) ++ prefix b at) at old.progress leaf
        → DescendsTo old new f.node leaf → Comes b text is new f
    unfolding children
    seek_down old new f true whole over known levels saved node name decides none same =
        let key = (last.key ++ byte ∷ []) ++ prefix b at in
        let own
        = leaf_items b accepted (place_of (link_of l.node)) at (last.key ++ byte ∷ [])
        (child_node b accepted l last.node byte at last.next is_child from first ascii)
        (child_below b accepted (link_of l.node) byte at last.node.node is_child) none in
        record {
          skipped = h.skipped;
          key = key;
          left = others;
          parts
              = h.parts
              ∙ ap (λ xs. h.skipped ++ xs)
              (unfolding_parts
              ∙ ap (λ xs. xs ++ others) (own ∙ ap (λ k. (key, k) ∷ []) (sym name)));
          none = h.none;
          node = node;
          decides = decides;
          searching = subst (λ s. IsSearching b text s others) (sym same)
              (record {
                whole = whole;
                over = over;
                known = known;
                waits
                    = subst (λ ks. Waits b text ks old.saved.items others) (sym levels)
                    (subst (λ ws. Waits b text (ls ++ after_branch l byte ∷ []) ws others)
                    (sym saved) waits_on);
              });
        }
    seek_down old new f false whole over known levels saved node name decides read down =
        let key = (last.key ++ byte ∷ []) ++ prefix b at in
        let own = branch_of f.node down.key in
        record {
          skipped = h.skipped;
          key = key;
          left = below b own key ++ others;
          parts
              = h.parts
              ∙ ap (λ xs. h.skipped ++ xs)
              (unfolding_parts
              ∙ ap (λ xs. xs ++ others)
              (child_parts b accepted l last.node byte at last.next is_child from
              first ascii last.key f.node down.key name));
          none = h.none;
          node = node;
          decides = decides;
          searching = record {
            whole = subst IsWhole (sym down.same) whole;
            over = subst (λ p. IsOver p text) (sym down.same) over;
            known = subst (AreKnown b text) (sym down.known) known;
            waits
                = subst (λ ks. Waits b text ks new.saved.items (below b own key ++ others))
                (sym (down.levels ∙ ap (λ ks. ks ++ own ∷ []) levels))
                (subst (λ ws. Waits b text ((ls ++ after_branch l byte ∷ []) ++ own ∷ []) ws
                (below b own key ++ others))
                (sym (down.saved.added ∙ ap (λ ws. ws ++ down.saved.words) saved))
                (above own down.saved.words key waits_on node (omega arith)
                (down.saved.read text key over read)));
          };
        }

pub found_last : (b text : List ℕ) (is : List Item) (now : Search) (h : Sought b text is now)
    (ls : List Branch) (l : Branch)
    → now.levels.items ≡ ls ++ l ∷ [] → Last b text ls l now.saved.items h.left
found_last b text is now h ls l e =
    last_level b text ls l now.levels.items now.saved.items h.left h.searching.waits e

pub words_within : (b text : List ℕ) (ls : List Branch) (l : Branch) (saved : List ℕ)
    (is : List Item)
    → Last b text ls l saved is → l.key.count + l.key.count ≤ length saved
words_within b text ls l saved is last =
    let all = ap length last.saved_is in
    omega (arith, all, last.read.size, length-append last.before last.words)

-- The words of the last level, as a slice.
pub level_words : (b text : List ℕ) (ls : List Branch) (l : Branch) (saved : List ℕ)
    (is : List Item) (count : ℕ)
    → Last b text ls l saved is → count + (l.key.count + l.key.count) ≡ length saved
    → (k : Last b text ls l saved is) → take (length saved - count) (drop count saved) ≡ k.words
level_words b text ls l saved is count last size k =
    top_words saved k.before k.words count k.saved_is (omega (arith, size, k.read.size))

-- How many nodes are left on a level after a child.
counts_after : (b : List ℕ) → index_fault b ≡ None → (l : Branch) → IsNodeOf b l.node
    → (byte at : ℕ) → l.next ≤ key_bytes → child b (link_of l.node) byte ≡ Some at → l.next ≤ byte
    → ((k : ℕ) → l.next ≤ k → k < byte → child b (link_of l.node) k ≡ None) → byte ≤ 127
    → (n : Node) (saved : Saved) → link_of n ≡ at
    → length (below b (branch_of n saved) []) + 1 + length (below b (after_branch l byte) [])
    ≡ length (below b l [])
counts_after b accepted l node byte at next is from first ascii n saved name =
    let all = ap length (first_child b accepted l node byte at next is from first ascii []) in
    let own
    = ap length (child_parts b accepted l node byte at next is from first ascii [] n saved name)
    in
    omega (
      arith,
      all,
      own,
      length-append (items b (place_of (link_of l.node)) at ([] ++ byte ∷ []))
          (below b (after_branch l byte) []),
      same_below b (branch_of n saved) (([] ++ byte ∷ []) ++ prefix b at) [],
    )

-- How many nodes are left after a child is reached.
pub count_down : (b : List ℕ) → index_fault b ≡ None → (ls : List Branch) (l : Branch)
    → IsNodeOf b l.node → (byte at : ℕ) → l.next ≤ key_bytes
    → child b (link_of l.node) byte ≡ Some at → l.next ≤ byte
    → ((k : ℕ) → l.next ≤ k → k < byte → child b (link_of l.node) k ≡ None) → byte ≤ 127
    → (old new : Search) (n : Node) (leaf : Bool)
    → old.levels.items ≡ ls ++ after_branch l byte ∷ [] → link_of n ≡ at → DescendsTo old new n leaf
    → count_left b new.levels.items + 1 ≤ count_left b (ls ++ l ∷ [])
count_down b accepted ls l node byte at next is from first ascii old new n true levels name same =
    let all = ap (λ (s : Search). count_left b s.levels.items) same ∙ ap (count_left b) levels in
    omega (
      arith,
      all,
      child_counts b accepted l node byte at next is from first ascii,
      count_push b ls l,
      count_push b ls (after_branch l byte),
    )
count_down b accepted ls l node byte at next is from first ascii old new n false levels name down =
    let own = branch_of n down.key in
    let all = ap (count_left b) (down.levels ∙ ap (λ ks. ks ++ own ∷ []) levels) in
    omega (
      arith,
      all,
      counts_after b accepted l node byte at next is from first ascii n down.key name,
      count_push b ls l,
      count_push b ls (after_branch l byte),
      count_push b (ls ++ after_branch l byte ∷ []) own,
    )

pub omega_size : (b text : List ℕ) (ls : List Branch) (l : Branch) (now : Search) (is : List Item)
    → Last b text ls l now.saved.items is → (all words : ℕ) → all ≡ vec_len now.saved
    → words ≡ l.key.count + l.key.count
    → all - words + (l.key.count + l.key.count) ≡ length now.saved.items
omega_size b text ls l now is last all words e f =
    omega (arith, e, f, now.saved.ok.0, words_within b text ls l now.saved.items is last)

pub saved_slice : (b text : List ℕ) (ls : List Branch) (l : Branch) (now : Search) (is : List Item)
    (last : Last b text ls l now.saved.items is) (count : ℕ) (d : List ℕ)
    → d ≡ now.saved.items → count + (l.key.count + l.key.count) ≡ length now.saved.items
    → take (length d - count) (drop count d) ≡ last.words
saved_slice b text ls l now is last count d e size =
    ap (λ ws. take (length ws - count) (drop count ws)) e
    ∙ level_words b text ls l now.saved.items is count last size last

pub nothing_waits : (b text : List ℕ) (ls : List Branch) (saved : List ℕ) (is : List Item)
    → Waits b text ls saved is → ls ≡ [] → is ≡ []
nothing_waits b text _ _ _ bottom e = refl
nothing_waits b text _ _ _ (above {ls = ls} l words key w node next read) e =
    let size = ap length e in absurd (omega (arith, size, length-append ls (l ∷ [])))
