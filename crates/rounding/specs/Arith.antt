-- Float arithmetic by short names, so that a definition reads like its formula: each operation rounds once, and binds closer than a list's ∷.
-- Definitions only. Assumes nothing.
use Rattle.std.specs.Prelude.{ℕ, from_bits, Float}
use Rattle.std.specs.Float.{binary32, binary64}
use Rattle.std.specs.Float.Ieee.{add, sub, mul, div}

infixl 70 ◌⊕◌
infixl 70 ◌⊖◌
infixl 75 ◌⊗◌
infixl 75 ◌⊘◌
-- 01: "Each operation rounds once, nothing is fused." Rust's a + b of two f64,
abbrev pub ◌⊕◌ : Float → Float → Float
a ⊕ b = add binary64 a b

-- its a - b,
abbrev pub ◌⊖◌ : Float → Float → Float
a ⊖ b = sub binary64 a b

-- its a * b,
abbrev pub ◌⊗◌ : Float → Float → Float
a ⊗ b = mul binary64 a b

-- and its a / b.
abbrev pub ◌⊘◌ : Float → Float → Float
a ⊘ b = div binary64 a b

-- A constant by its bits: the f64 with the bits b,
abbrev pub f64 : ℕ → Float
f64 b = from_bits binary64 b

-- and the f32.
abbrev pub f32 : ℕ → Float
f32 b = from_bits binary32 b

-- 0.0
abbrev pub zero64 : Float
zero64 = f64 0

-- 1.0
abbrev pub one64 : Float
one64 = f64 0x3FF0000000000000
