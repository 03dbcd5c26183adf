-- Two calls that share what the loop's last matches name have the same closing: the clips with their refits, and the report. Assumes nothing.
use Rattle.stats.specs.declared.MedianSigma.{MedianSigma}
use Rattle.std.specs.Prelude.{Option, Some, None}
use Rattle.std.proofs.Common.{◌≡◌, ℕ, zero, suc, ◌/◌, Bool, true, false, cond, ltb, List, length, refl, ap, ◌∙◌}
use lib.Ieee.{Float}
use Rattle.fit.specs.Rows.{Row, rows, view_of}
use Rattle.fit.specs.Normal.{ls_fit_once}
use Rattle.residuals.specs.Residual.{residuals, mad_clip_matches}
use Rattle.fit.specs.declared.Pose.{Pose}
use Rattle.solve.specs.declared.Solution.{Solution}
use Rattle.solve.specs.declared.Solution.TheVariants.{Solved, Failed}
use Rattle.entry.specs.Fixed.{Fixed}
use Rattle.passes.specs.Fit.{moved, sound}
use Rattle.wcs_refine.specs.Clip.{statistics, taken}
use Rattle.wcs_refine.specs.Closing.{Closed, unsound, fine, if_sound, refitted, recleaned, cleaned_by, cleaned}
use Rattle.wcs_refine.proofs.Along.{either}
use Rattle.wcs_refine.proofs.Remaining.{clip_all}
use Rattle.wcs_refine.proofs.Lookups.{SameSpot, SameDirection, Shared, rows_same}

module _ (sa sb da db : List Float) where
  abbrev pub ClosedShared : Closed → Type 0
  ClosedShared unsound = Unit {0}
  ClosedShared (fine p ms) = Shared sa sb da db ms

  module _ (k : Fixed) where
    -- ---- the same in both
    refitted_same : (p : Pose) (x : Solution) (f g : Pose → Closed) → ((q : Pose) → f q ≡ g q) → refitted p x f ≡ refitted p x g
    unfolding refitted if_sound
    refitted_same p Failed f g e = e p
    refitted_same p (Solved t xi eta) f g e = let q = moved p t xi eta in go (sound q) q
      where
        go : (b : Bool) (q : Pose) → if_sound b q f ≡ if_sound b q g
        go false q = refl
        go true q = e q

    recleaned_same : (p : Pose) (ms : List ℕ) (c : Option ℕ) (new : List ℕ) (f g : Pose → List ℕ → Closed) → Shared sa sb da db (taken c ms new) → ((q : Pose) (l : List ℕ) → Shared sa sb da db l → f q l ≡ g q l)
        → recleaned k sa da p ms c new f ≡ recleaned k sb db p ms c new g
    unfolding recleaned
    recleaned_same p ms None new f g h e = refl
    recleaned_same p ms (Some n) new f g h e =
        let l = taken (Some n) ms new in
        refitted_same p (ls_fit_once (view_of p k.cut) (rows sa da l)) (λ q. f q l) (λ q. g q l) (λ q. e q l h)
        ∙ ap (λ (rs : List Row). refitted p (ls_fit_once (view_of p k.cut) rs) (λ q. g q l)) (rows_same sa sb da db l h)

    cleaned_by_same : (p : Pose) (ms : List ℕ) (rs : List Float) (t : Option MedianSigma) (f g : Pose → List ℕ → Closed) → Shared sa sb da db ms → ((q : Pose) (l : List ℕ) → Shared sa sb da db l → f q l ≡ g q l)
        → cleaned_by k sa da p ms rs t f ≡ cleaned_by k sb db p ms rs t g
    unfolding cleaned_by
    cleaned_by_same p ms rs None f g h e = refl
    cleaned_by_same p ms rs (Some t) f g h e =
        let c = mad_clip_matches rs ms t.median t.sigma in
        recleaned_same p ms c.answer c.matches f g (clip_all (SameSpot sa sb) (SameDirection da db) rs ms t.median t.sigma h) e

    pub cleaned_same : (n : ℕ) (p : Pose) (ms : List ℕ) → Shared sa sb da db ms → cleaned k sa da n p ms ≡ cleaned k sb db n p ms
    unfolding cleaned
    cleaned_same zero p ms h = refl
    cleaned_same (suc n) p ms h =
        let after : List Row → Closed = λ rs. let vs = residuals (view_of p k.cut) rs in cleaned_by k sb db p ms vs (statistics vs) (λ q l. cleaned k sb db n q l) in
        let vs = residuals (view_of p k.cut) (rows sa da ms) in
        ap (λ (c : Closed). cond (ltb (length ms / 2) 6) (fine p ms) c)
        (cleaned_by_same p ms vs (statistics vs) (λ q l. cleaned k sa da n q l) (λ q l. cleaned k sb db n q l) h (λ q l i. cleaned_same n q l i)
        ∙ ap after (rows_same sa sb da db ms h))

    -- ---- what it leaves is shared
    refitted_shared : (p : Pose) (x : Solution) (f : Pose → Closed) → ((q : Pose) → ClosedShared (f q)) → ClosedShared (refitted p x f)
    unfolding refitted if_sound
    refitted_shared p Failed f e = e p
    refitted_shared p (Solved t xi eta) f e = let q = moved p t xi eta in go (sound q) q
      where
        go : (b : Bool) (q : Pose) → ClosedShared (if_sound b q f)
        go false q = tt
        go true q = e q

    recleaned_shared : (p : Pose) (ms : List ℕ) (c : Option ℕ) (new : List ℕ) (f : Pose → List ℕ → Closed) → Shared sa sb da db ms → Shared sa sb da db (taken c ms new) → ((q : Pose) (l : List ℕ) → Shared sa sb da db l → ClosedShared (f q l))
        → ClosedShared (recleaned k sa da p ms c new f)
    unfolding recleaned
    recleaned_shared p ms None new f h i e = h
    recleaned_shared p ms (Some n) new f h i e = let l = taken (Some n) ms new in refitted_shared p (ls_fit_once (view_of p k.cut) (rows sa da l)) (λ q. f q l) (λ q. e q l i)

    cleaned_by_shared : (p : Pose) (ms : List ℕ) (rs : List Float) (t : Option MedianSigma) (f : Pose → List ℕ → Closed) → Shared sa sb da db ms → ((q : Pose) (l : List ℕ) → Shared sa sb da db l → ClosedShared (f q l))
        → ClosedShared (cleaned_by k sa da p ms rs t f)
    unfolding cleaned_by
    cleaned_by_shared p ms rs None f h e = h
    cleaned_by_shared p ms rs (Some t) f h e =
        let c = mad_clip_matches rs ms t.median t.sigma in
        recleaned_shared p ms c.answer c.matches f h (clip_all (SameSpot sa sb) (SameDirection da db) rs ms t.median t.sigma h) e

    pub cleaned_shared : (n : ℕ) (p : Pose) (ms : List ℕ) → Shared sa sb da db ms → ClosedShared (cleaned k sa da n p ms)
    unfolding cleaned
    cleaned_shared zero p ms h = h
    cleaned_shared (suc n) p ms h =
        let vs = residuals (view_of p k.cut) (rows sa da ms) in
        let f : Pose → List ℕ → Closed = λ q l. cleaned k sa da n q l in
        either ClosedShared (ltb (length ms / 2) 6) (fine p ms) (cleaned_by k sa da p ms vs (statistics vs) f) h
        (cleaned_by_shared p ms vs (statistics vs) f h (λ q l i. cleaned_shared n q l i))
