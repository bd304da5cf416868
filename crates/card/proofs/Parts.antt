-- How long the parts of a card's bytes are, the report's from its fields' bits, and a card from its bytes' numbers. Assumes nothing.
use mathlib.Core.Path.{◌≡◌}
use mathlib.Core.List.{List, ◌++◌}
use Prim.Native.Nat.{ℕ}
use lib.ListN.{length, length-append}
use lib.IntN.{ℤ}
use lib.Ieee.{Float, binary32, binary64, to_bits, of_bits}
use Rattle.words.specs.Words.{number_at, bytes_of, bits_of, signed_of}
use Rattle.words.proofs.RoundTrip.{length_bytes}
use Rattle.card.specs.declared.Card.{Card}
use Rattle.card.specs.Card.{head_bytes, count_bytes, report_bytes, card_of}

pub length_head : (version mode end : ℕ) → length (head_bytes version mode end) ≡ 7
unfolding head_bytes
length_head version mode end = simp (length-append, length_bytes)

pub length_counts : (c : Card) → length (count_bytes c) ≡ 24
unfolding count_bytes
length_counts c = simp (length-append, length_bytes)

pub length_report : (c : Card) → length (report_bytes c) ≡ 25
unfolding report_bytes
length_report c = simp (length-append, length_bytes)

pub report_of_lem : (c : Card) (q r s i : ℕ) → q ≡ to_bits binary32 c.start_quality → r ≡ to_bits binary64 c.rate → s ≡ bits_of c.skip → i ≡ to_bits binary32 c.quality
    → bytes_of 4 q ++ bytes_of 8 r ++ bytes_of 1 c.slant ++ bytes_of 8 s ++ bytes_of 4 i ≡ report_bytes c
unfolding report_bytes
report_of_lem c q r s i eq er es ei = rw (eq, er, es, ei)

pub card_of_lem : (bs : List ℕ) (m n k taken evaluations start bq br bs' bi : ℕ) (q r i : Float) (s : ℤ)
    → m ≡ number_at bs 5 1 → n ≡ number_at bs 6 1 → taken ≡ number_at bs 7 8 → evaluations ≡ number_at bs 15 8 → start ≡ number_at bs 23 8
    → bq ≡ number_at bs 31 4 → q ≡ of_bits binary32 bq → br ≡ number_at bs 35 8 → r ≡ of_bits binary64 br → k ≡ number_at bs 43 1
    → bs' ≡ number_at bs 44 8 → s ≡ signed_of bs' → bi ≡ number_at bs 52 4 → i ≡ of_bits binary32 bi
    → ◌≡◌ {A = Card}
    (record { mode = m; end = n; taken = taken; evaluations = evaluations; start = start; start_quality = q; rate = r; slant = k; skip = s; quality = i })
    (card_of bs)
unfolding card_of
card_of_lem bs m n k taken evaluations start bq br bs' bi q r i s e5 e6 e7 e15 e23 e31 eq e35 er e43 e44 es e52 ei = rw (eq, er, es, ei, e5, e6, e7, e15, e23, e31, e35, e43, e44, e52)
