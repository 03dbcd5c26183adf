-- Each spot and each direction is either the same in two lists or not, and past the end of two lists of whole ones of one length it is the same.
-- Assumes nothing.
use Rattle.std.proofs.Common.{◌≡◌, ℕ, ◌+◌, ◌*◌, ◌/◌, ◌%◌, ◌≤◌, Bool, List, [], ◌∷◌, length, get_or, ℤ, sym, refl, ap, ◌∙◌, arith}
use mathlib.Core.HLevel.{Discrete}
use native.Mathlib.Decide.{ℕ_discrete}
use mathlib.Core.Bool.{Bool-discrete}
use mathlib.Core.List.{List-discrete}
use lib.IntN.{ℤ_discrete}
use lib.ListN.{get_or-eq_default}
use lib.Ieee.{Float, nan, inf, fin}
use Rattle.panel.specs.Spots.{spot_numbers, spot_at}
use Rattle.fit.specs.Rows.{direction_at}
use Rattle.panel.specs.declared.Spot.{Spot}

-- ---- floats are the same, or not
inf_dec : (s t : Bool) → Dec (s ≡ t) → Dec (inf s ≡ inf t)
inf_dec s t (yes p) = yes (ap inf p)
inf_dec s t (no p) = no (λ h. p (cc))

fin_dec : (s t : Bool) (m n : ℕ) (e d : ℤ) → Dec (s ≡ t) → Dec (m ≡ n) → Dec (e ≡ d) → Dec (fin s m e ≡ fin t n d)
fin_dec s t m n e d (yes p) (yes q) (yes r) = yes (λ i. fin (p i) (q i) (r i))
fin_dec s t m n e d (yes p) (yes q) (no r) = no (λ h. r (cc))
fin_dec s t m n e d (yes p) (no q) r = no (λ h. q (cc))
fin_dec s t m n e d (no p) q r = no (λ h. p (cc))

clash : ◌≡◌ {A = ℕ} 0 1 → ⊥
clash z = omega arith

Float_discrete : Discrete Float
Float_discrete nan nan = yes refl
Float_discrete nan (inf t) = no (λ h. clash (cc))
Float_discrete nan (fin t n d) = no (λ h. clash (cc))
Float_discrete (inf s) nan = no (λ h. clash (cc))
Float_discrete (inf s) (inf t) = inf_dec s t (Bool-discrete s t)
Float_discrete (inf s) (fin t n d) = no (λ h. clash (cc))
Float_discrete (fin s m e) nan = no (λ h. clash (cc))
Float_discrete (fin s m e) (inf t) = no (λ h. clash (cc))
Float_discrete (fin s m e) (fin t n d) = fin_dec s t m n e d (Bool-discrete s t) (ℕ_discrete m n) (ℤ_discrete e d)

-- ---- spots and directions
pub spot_dec : (s t : Spot) → Dec (s ≡ t)
spot_dec s t = go (Float_discrete s.px t.px) (Float_discrete s.py t.py) (Float_discrete s.weight t.weight)
  where
    go : Dec (s.px ≡ t.px) → Dec (s.py ≡ t.py) → Dec (s.weight ≡ t.weight) → Dec (s ≡ t)
    go (yes p) (yes q) (yes w) = yes (λ i. record { px = p i; py = q i; weight = w i })
    go (yes p) (yes q) (no w) = no (λ h. w (ap (λ (s : Spot). s.weight) h))
    go (yes p) (no q) w = no (λ h. q (ap (λ (s : Spot). s.py) h))
    go (no p) q w = no (λ h. p (ap (λ (s : Spot). s.px) h))

pub direction_dec : (v w : List Float) → Dec (v ≡ w)
direction_dec = List-discrete Float_discrete

module _ (u v : List Float) (e : length u ≡ length v) where
  past : (n : ℕ) → length u ≤ n → get_or u n nan ≡ get_or v n nan
  past n h = get_or-eq_default u nan {n = n} h ∙ sym (get_or-eq_default v nan {n = n} (omega arith))

  pub spot_past : length u % spot_numbers ≡ 0 → (i : ℕ) → length u / spot_numbers ≤ i → spot_at u i ≡ spot_at v i
  unfolding spot_at
  spot_past d i h = λ t. record { px = past (spot_numbers * i) (omega arith) t; py = past (spot_numbers * i + 1) (omega arith) t; weight = past (spot_numbers * i + 2) (omega arith) t }

  pub direction_past : length u % 3 ≡ 0 → (j : ℕ) → length u / 3 ≤ j → direction_at u j ≡ direction_at v j
  unfolding direction_at
  direction_past d j h = λ t. past (3 * j) (omega arith) t ∷ past (3 * j + 1) (omega arith) t ∷ past (3 * j + 2) (omega arith) t ∷ []
