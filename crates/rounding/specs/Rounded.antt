-- What it is to be rounded to nearest, ties to even (IEEE 754-2019, 4.3.1), over whole numbers and over every format. Definitions only.
-- The exact number is y at or above 0, with a sign s. It need not be a fraction: all that is asked of y is how it compares with halves of a unit.
-- `Under t` says t / 2 ≤ y, and `Over t` says y ≤ t / 2. So for g below a, `Over (g + a)` says that y does not lie past the middle of g and a:
-- y is no nearer to a than to g. Assumes nothing.
use Rattle.std.specs.Prelude.{◌≡◌, ℕ, suc, ◌+◌, ◌-◌, ◌*◌, ◌/◌, ◌%◌, ◌^◌, ◌<◌, ◌≤◌, Bool, not, T, ◌≢◌, Float}
use Rattle.std.specs.Float.{inf, Format}
use Rattle.std.specs.Float.Ieee.{prec, low, emax, size, fits}
use Rattle.std.specs.Float.Ieee.Exact.{HasValue}
use Rattle.std.specs.Float.Ieee.Scale.{overflow}

-- ---- over units: whole numbers of a format's smallest value

-- p digits hold the number a: it is q * 2 ^ k with q below 2 ^ p.
pub record Holds (p a : ℕ) : Type 0 where
  pub q : ℕ
  pub k : ℕ
  pub few : q < 2 ^ p
  pub is : a ≡ q * 2 ^ k

-- The last of the p leading digits of g.
abbrev pub last_digit : ℕ → ℕ → ℕ
last_digit p g = g / 2 ^ (size g - p) % 2

-- Of the numbers that p digits hold, none is nearer to y than g, and where another is as near, g is the one with the even last digit.
pub record Nearest (p : ℕ) (Under Over : ℕ → Type 0) (g : ℕ) : Type 0 where
  pub held : Holds p g
  pub larger : (a : ℕ) → Holds p a → g < a → Over (g + a)
  pub smaller : (a : ℕ) → Holds p a → a < g → Under (a + g)
  pub even : (a : ℕ) → Holds p a → (a ≢ g) → Under (a + g) → Over (a + g) → last_digit p g ≡ 0

-- r is y with the sign s, rounded to the format f: the nearest number of units, or an infinity where that is 2 ^ (emax + 1) or more.
-- `HasValue r s a b` says that r is the number a / b with the sign s.
pub record Rounded (f : Format) (Under Over : ℕ → Type 0) (s : Bool) (r : Float) : Type 0 where
  pub units : ℕ
  pub nearest : Nearest (prec f) Under Over units
  pub finite : units < overflow f → HasValue r s units (2 ^ low f)
  pub infinite : overflow f ≤ units → r ≡ inf s

-- ---- over floats: every value that fits the format

-- The largest finite value of f, in units. Twice the overflow threshold 2 ^ emax * (2 - 2 ^ -prec) is `largest f + overflow f`.
abbrev pub largest : Format → ℕ
largest f = overflow f - 2 ^ (low f + suc (emax f) - prec f)

-- The float r, which fits f and is g units with the sign s, is the nearest to y among all floats v that fit f: v may be larger or smaller,
-- or of the other sign (there the middle of g and -a is (g - a) / 2, and what is below 0 is below y anyway). At a tie r's last digit is even.
pub record NearestFloat (f : Format) (Under Over : ℕ → Type 0) (s : Bool) (r : Float) (g : ℕ) : Type 0 where
  pub value : HasValue r s g (2 ^ low f)
  pub larger : (v : Float) (a : ℕ) → T (fits f v) → HasValue v s a (2 ^ low f) → g < a → Over (g + a)
  pub smaller : (v : Float) (a : ℕ) → T (fits f v) → HasValue v s a (2 ^ low f) → a < g → Under (a + g)
  pub opposite : (v : Float) (a : ℕ) → T (fits f v) → HasValue v (not s) a (2 ^ low f) → Under (g - a)
  pub even : (v : Float) (a : ℕ) → T (fits f v) → HasValue v s a (2 ^ low f) → (a ≢ g) →
      Under (a + g) → Over (a + g) → last_digit (prec f) g ≡ 0

-- r is y rounded to the format f, said of floats alone: an infinity exactly from the overflow threshold on, and below it the nearest float.
pub record RoundedFloat (f : Format) (Under Over : ℕ → Type 0) (s : Bool) (r : Float) : Type 0 where
  pub fitting : T (fits f r)
  pub infinite : Under (largest f + overflow f) → r ≡ inf s
  pub finite : (Under (largest f + overflow f) → ⊥) → (g : ℕ) × NearestFloat f Under Over s r g

-- ---- the numbers that are rounded here, each in units

-- t / 2 is at most the fraction n / d,
abbrev pub FractionUnder : ℕ → ℕ → ℕ → Type 0
FractionUnder n d t = t * d ≤ 2 * n

-- and at least it.
abbrev pub FractionOver : ℕ → ℕ → ℕ → Type 0
FractionOver n d t = 2 * n ≤ t * d

-- t / 2 is at most the root of n / d: its square is at most n / d,
abbrev pub RootUnder : ℕ → ℕ → ℕ → Type 0
RootUnder n d t = t * t * d ≤ 4 * n

-- and at least it.
abbrev pub RootOver : ℕ → ℕ → ℕ → Type 0
RootOver n d t = 4 * n ≤ t * t * d
