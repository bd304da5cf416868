-- A reported card byte by byte, and the limits of what is refused (02-change-requests.md, A.1), computed from the definitions. Assumes nothing.
use mathlib.Core.Path.{◌≡◌, refl}
use mathlib.Core.Bool.{Bool, true, false}
use mathlib.Core.List.{List, [], ◌∷◌}
use Prim.Native.Nat.{◌+◌, ◌-◌, ◌^◌}
use lib.IntN.{pos, negsuc}
use lib.ListN.{take, set}
use lib.Ieee.{nan, inf, fin, binary32, lt, le, to_bits, of_bits}
use Rattle.std.specs.Prelude.{Result, Ok, Err}
use Rattle.limits.specs.declared.Refusal.{Refusal}
use Rattle.limits.specs.declared.Refusal.TheVariants as why
use Rattle.words.specs.Words.{little_endian, bytes_of}
use Rattle.card.specs.declared.Card.{Card}
use Rattle.card.specs.Card.{head_bytes, count_bytes, report_bytes, card_bytes, card_of, marked, filled, start_filled, report_filled, lacked_filled, within, positive, near, between, wrong, read_refusal}

-- mode 3, reported, start quality 1.0, 11,025.0 Hz, slant index 120, skip -2, image quality 0.5
abbrev example : Card
example =
    record {
      mode = 3;
      end = 0;
      taken = 0x0102;
      evaluations = 7;
      start = 0x0807_0605_0403_0201;
      start_quality = fin false 1 (pos 0);
      rate = fin false 11025 (pos 0);
      slant = 120;
      skip = negsuc 1;
      quality = fin false 1 (negsuc 0);
    }

pub example_bytes : card_bytes example ≡
    0x53 ∷ 0x53 ∷ 0x52 ∷ 1 ∷ 0 ∷ 3 ∷ 0 ∷
    2 ∷ 1 ∷ 0 ∷ 0 ∷ 0 ∷ 0 ∷ 0 ∷ 0 ∷
    7 ∷ 0 ∷ 0 ∷ 0 ∷ 0 ∷ 0 ∷ 0 ∷ 0 ∷
    1 ∷ 2 ∷ 3 ∷ 4 ∷ 5 ∷ 6 ∷ 7 ∷ 8 ∷
    0 ∷ 0 ∷ 0x80 ∷ 0x3f ∷
    0 ∷ 0 ∷ 0 ∷ 0 ∷ 0x80 ∷ 0x88 ∷ 0xc5 ∷ 0x40 ∷
    120 ∷
    0xfe ∷ 0xff ∷ 0xff ∷ 0xff ∷ 0xff ∷ 0xff ∷ 0xff ∷ 0xff ∷
    0 ∷ 0 ∷ 0 ∷ 0x3f ∷ []
unfolding card_bytes head_bytes count_bytes report_bytes bytes_of to_bits
example_bytes = refl

-- the reader on these bytes, as they are; with mode 16; with that and another mark; with version 2; with their last byte missing
abbrev refusals : List (Result Unit Refusal)
refusals =
    read_refusal (card_bytes example)
    ∷ read_refusal (set (card_bytes example) 5 16)
    ∷ read_refusal (set (set (card_bytes example) 5 16) 0 0)
    ∷ read_refusal (set (card_bytes example) 3 2)
    ∷ read_refusal (take 55 (set (card_bytes example) 3 2))
    ∷ []

pub example_refusals : refusals ≡ Ok tt ∷ Err why.CardField ∷ Err why.CardMark ∷ Err why.CardMark ∷ Err why.CardLength ∷ []
unfolding card_bytes head_bytes count_bytes report_bytes bytes_of to_bits read_refusal marked wrong lacked_filled start_filled report_filled between within positive near card_of little_endian of_bits le lt
example_refusals = refl

-- 0, -0 and 1 are from 0 to 1; the next float above 1, the first below 0 and a NaN are not
abbrev qualities : List Bool
qualities =
    within (fin false 0 (pos 0))
    ∷ within (fin true 0 (pos 0))
    ∷ within (fin false 1 (pos 0))
    ∷ within (fin false 8388609 (negsuc 22))
    ∷ within (fin true 1 (negsuc 148))
    ∷ within nan
    ∷ []

pub example_qualities : qualities ≡ true ∷ true ∷ true ∷ false ∷ false ∷ false ∷ []
unfolding within le lt
example_qualities = refl

-- but -0 fills a field
pub negative_zero : filled (to_bits binary32 (fin true 0 (pos 0))) ≡ true
unfolding to_bits
negative_zero = refl

-- the smallest float is positive; 0, the infinity and a NaN are not
abbrev rates : List Bool
rates = positive (fin false 1 (negsuc 1073)) ∷ positive (fin false 0 (pos 0)) ∷ positive (inf false) ∷ positive nan ∷ []

pub example_rates : rates ≡ true ∷ false ∷ false ∷ false ∷ []
unfolding positive lt
example_rates = refl

-- 2^62 and -2^62 are near, one more either way is not; 239 and 255 are no number between
abbrev limits : List Bool
limits =
    near (pos (2 ^ 62))
    ∷ near (negsuc (2 ^ 62 - 1))
    ∷ near (pos (2 ^ 62 + 1))
    ∷ near (negsuc (2 ^ 62))
    ∷ between 239
    ∷ between 240
    ∷ between 254
    ∷ between 255
    ∷ []

pub example_limits : limits ≡ true ∷ true ∷ false ∷ false ∷ false ∷ true ∷ true ∷ false ∷ []
unfolding near between
example_limits = refl
