-- How a proof distinguishes what is seen of files in memory: each is stored as the tuple of its
-- parts.
use Rattle.std.specs.Prelude.{ℕ, List, refl}
use Rattle.std.specs.Coded.{Coded, code_by, coded×, coded_ℕ, coded_list}
use Rattle.std.specs.FinMap as map
use Rattle.outside_calls.specs.CallCounts.{CallCounts}
use Rattle.outside_calls.specs.CallsSeen.{CallsSeen}
use Rattle.outside_calls.specs.Contents.{Contents}
use Rattle.outside_calls.specs.Counted.{Counted}
use Rattle.outside_calls.specs.MemFilesSeen.{MemFilesSeen, KindsSeen}

abbrev pub contents_code : Coded Contents
contents_code = map.code (coded_list coded_ℕ) (coded_list coded_ℕ)

abbrev pub calls_code : Coded CallsSeen
calls_code =
    code_by (ℕ × List ℕ) (coded× coded_ℕ (coded_list coded_ℕ)) (λ c. (c.next, c.failing))
    (λ p. record { next = p.0; failing = p.1 })
    (λ _. refl)

abbrev pub kinds_code : Coded KindsSeen
kinds_code =
    code_by (CallsSeen × (CallsSeen × (CallsSeen × CallsSeen)))
    (coded× calls_code (coded× calls_code (coded× calls_code calls_code)))
    (λ k. (k.reads, (k.conf_lists, (k.tree_lists, k.replaces))))
    (λ p. record { reads = p.0; conf_lists = p.1.0; tree_lists = p.1.1.0; replaces = p.1.1.1 })
    (λ _. refl)

abbrev pub counts_code : Coded CallCounts
counts_code =
    code_by (ℕ × (ℕ × ℕ)) (coded× coded_ℕ (coded× coded_ℕ coded_ℕ))
    (λ c. (c.faults, (c.absences, c.excesses)))
    (λ p. record { faults = p.0; absences = p.1.0; excesses = p.1.1 })
    (λ _. refl)

abbrev pub counted_code : Coded Counted
counted_code =
    code_by (ℕ × CallCounts) (coded× coded_ℕ counts_code) (λ c. (c.calls, c.counts))
    (λ p. record { calls = p.0; counts = p.1 })
    (λ _. refl)

abbrev pub mem_files_code : Coded MemFilesSeen
mem_files_code =
    code_by (Contents × (KindsSeen × (ℕ × CallCounts)))
    (coded× contents_code (coded× kinds_code (coded× coded_ℕ counts_code)))
    (λ f. (f.contents, (f.kinds, (f.calls, f.counts))))
    (λ p. record { contents = p.0; kinds = p.1.0; calls = p.1.1.0; counts = p.1.1.1 })
    (λ _. refl)
