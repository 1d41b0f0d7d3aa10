-- The words of a command line: a name, and the words after it.
use Rattle.std.proofs.Common.{◌≡◌, ℕ, ◌<◌, ◌≤◌, List, [], ◌∷◌, length, drop, get_or, refl, subst}
use Rattle.std.proofs.Common.{arith}
use Rattle.std.specs.Prelude.{codes}
use Rattle.km_course.specs.World.{World}
use Rattle.km_course.specs.Carries.{Carries}
use Rattle.kmod_cli.specs.Extra.{Extra}
use Rattle.kmod_cli.specs.Headline.{Headline}
use Rattle.kmod_cli.specs.Indexes.{Indexes}
use Rattle.kmod_cli.specs.Plans.{Plans}
use Rattle.kmod_cli.specs.Program.{command_named, course}
use Rattle.kmod_cli.proofs.ExtraLaw.{extra-law}
use Rattle.kmod_cli.proofs.HeadlineLaw.{headline}
use Rattle.kmod_cli.proofs.IndexesLaw.{indexes-law}
use Rattle.kmod_cli.proofs.PlansLaw.{plans}

pub no-words : (words : List (List ℕ)) → length words < 1 → words ≡ []
no-words [] h = refl
no-words (word ∷ words) h = absurd (omega arith)

pub name-first : (words rest : List (List ℕ)) (name : List ℕ) → 1 ≤ length words
    → name ≡ get_or words 0 name → rest ≡ drop 1 words → words ≡ name ∷ rest
name-first [] rest name h is after = absurd (omega arith)
name-first (word ∷ words) rest name h is after = cc

-- what was indexed where the first word is `depmod`
pub depmod-indexes : (words : List (List ℕ)) (old new : World) (status : ℕ)
    → Carries (course words) old new status → (rest : List (List ℕ)) → words ≡ codes "depmod" ∷ rest
    → Indexes rest old new status
unfolding command_named
depmod-indexes words old new status c rest is =
    indexes-law rest old new status (subst (λ w. Carries (course w) old new status) is c)

-- and what it left with `--extra`
pub depmod-extra : (words : List (List ℕ)) (old new : World) (status : ℕ)
    → Carries (course words) old new status → (rest : List (List ℕ)) → words ≡ codes "depmod" ∷ rest
    → Extra rest old new status
depmod-extra words old new status c rest is =
    extra-law rest old new status (depmod-indexes words old new status c rest is)

-- what a load did where the first word is `modprobe`
pub modprobe-loads : (words : List (List ℕ)) (old new : World) (status : ℕ)
    → Carries (course words) old new status → (rest : List (List ℕ))
    → words ≡ codes "modprobe" ∷ rest → Headline rest old new status
unfolding command_named
modprobe-loads words old new status c rest is =
    headline rest old new status (subst (λ w. Carries (course w) old new status) is c)

-- and what it planned
pub modprobe-plans : (words : List (List ℕ)) (old new : World) (status : ℕ)
    → Carries (course words) old new status → (rest : List (List ℕ))
    → words ≡ codes "modprobe" ∷ rest → Plans rest old new status
unfolding command_named
modprobe-plans words old new status c rest is =
    plans rest old new status (subst (λ w. Carries (course w) old new status) is c)
