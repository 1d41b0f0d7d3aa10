-- What the modules of a tree state, as `AllStated` keeps it.
use Rattle.std.specs.Prelude.{◌≡◌, ℕ, List, map}
use Rattle.std.specs.Global.{Vec}
use Rattle.module_facts.specs.declared.facts.Facts.{Facts}
use Rattle.stated_texts.specs.declared.stated.StatedKind.{StatedKind}
use Rattle.stated_texts.specs.declared.stated.StatedKind.TheVariants.{Alias, Softdep, Symbol}
use Rattle.stated_texts.specs.declared.stated.AllStated.{AllStated}
use Rattle.stated_texts.specs.Kinds.{texts_of}

-- The texts of one kind that each module of a tree states.
abbrev pub AreStated : StatedKind → List Facts → List (Vec (List ℕ)) → Type 0
AreStated kind tree all = map (λ (v : Vec (List ℕ)). v.items) all ≡ map (texts_of kind) tree

-- The texts of each kind that each module of a tree states.
pub record AreAllStated (tree : List Facts) (all : AllStated) : Type 0 where
  pub aliases : AreStated Alias tree all.aliases.items
  pub softdeps : AreStated Softdep tree all.softdeps.items
  pub symbols : AreStated Symbol tree all.symbols.items
