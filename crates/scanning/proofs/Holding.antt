-- What the work list holds after some matches were taken, and what one scan and one match more make of it. Assumes nothing.
use Rattle.std.proofs.Common.{◌≡◌, ℕ, ◌+◌, ◌*◌, ◌<◌, ◌≤◌, min, Bool, true, false, not, ◌||◌, List, [], ◌∷◌, ◌++◌, reverse, length, get_or, drop, set, refl, sym, ap, ap₂, ◌∙◌, arith, append_assoc, append-nil, length-set, length-append, length-drop, drop-drop, drop_at}
use Rattle.std.proofs.lemmas.Grind.{common_steps}
use Rattle.std.proofs.lemmas.List.{length-reverse, reverse-append}
use Rattle.std.proofs.lemmas.Bool.{not-true, not_from_false}
use lib.Dec.{eqb}
use lib.ListN.{replicate, length-replicate, get_or-replicate, get_or-append}
use lib.Seq.{drop-set-lt, drop-set-add}
use Rattle.lists.specs.Cleared.{cleared}
use Rattle.lists.proofs.Clearing.{cleared_within}
use Rattle.lists.proofs.Fronts.{grow_two}
use Rattle.pairs.specs.declared.search.Search.{Search}
use Rattle.matching.specs.Greedy.{Match, assigned, matches_of, flat}
use Rattle.matching.specs.Meaning.{Near}
use Rattle.matching.proofs.Picking.{clash}
use Rattle.matching.proofs.Sharing.{share, shares, shared, none_free}
use Rattle.matching.proofs.Nearness.{in_order}
use Rattle.matching.proofs.Calls.{flat_many}
use Rattle.scanning.specs.declared.scan.Found.{Found}
use Rattle.scanning.specs.Seeking.{frame_of, predictions, marks, gone, free, Takeable, Sifted, Took, match_at, FirstOf}
use Rattle.scanning.proofs.Closest.{FirstFree, begins, ended}
use Rattle.scanning.proofs.Looking.{free_parts}
use Rattle.scanning.proofs.Sifting.{spot_in}
use Rattle.scanning.proofs.Counting.{left, left_most, left_fewer, left_one}

-- ---- lists and tests

flat_append : (l r : List Match) → flat (l ++ r) ≡ flat l ++ flat r
unfolding flat
flat_append [] r = refl
flat_append (m ∷ l) r = ap (λ (t : List ℕ). m.spot ∷ m.prediction ∷ t) (flat_append l r)

last : (m : Match) (l : List Match) → reverse (m ∷ l) ≡ reverse l ++ (m ∷ [])
last m l = reverse-append (m ∷ []) l

-- a place more is gone
put_gone : (w : List ℕ) (i k : ℕ) → i < length w → gone (set w i 1) k ≡ eqb k i || gone w k
put_gone w i k h = grind (arith, common_steps)

share_is : (m n : Match) → share m n ≡ eqb m.spot n.spot || eqb m.prediction n.prediction
share_is m n = grind (arith, common_steps, shared m n, shares m n)

clash_more : (n m : Match) (l : List Match) → clash share n (m ∷ l) ≡ (eqb n.spot m.spot || eqb n.prediction m.prediction) || clash share n l
unfolding clash
clash_more n m l = grind (arith, share_is n m)

module _ (s : Search) (W : List ℕ) where
  abbrev pub matches : List Match
  matches = matches_of s.points.now s.np s.predicted.now s.radius_sq

  -- the work list once a match more was taken
  abbrev pub with_one : List Match → List ℕ → Match → List ℕ
  with_one taken w m =
      let at = marks s + 2 * length taken in
      set (set (set (set w m.spot 1) (s.np + m.prediction) 1) at m.spot) (at + 1) m.prediction

  -- the matches that were taken, the newest first, and what is marked and stands behind the marks for them
  pub record Holding (taken : List Match) (w : List ℕ) : Type 0 where
    pub long : length w ≡ length W
    pub whole : matches ≡ reverse taken ++ assigned taken (in_order (frame_of s))
    pub open_pairs : (m : Match) → Near (frame_of s) m → free s w m ≡ not (clash share m taken)
    pub stands : drop (marks s) w ≡ flat (reverse taken) ++ drop (2 * length taken) (drop (marks s) W)
    pub spots_left : left (gone w) s.np + length taken ≤ s.np
    pub predictions_left : left (λ j. gone w (s.np + j)) (predictions s) + length taken ≤ predictions s

  -- nothing was taken
  pub hold_none : marks s ≤ length W → (w : List ℕ) → w ≡ cleared 0 (marks s) W → Holding [] w
  unfolding matches_of flat free
  hold_none room w e =
      let is : w ≡ replicate (marks s) 0 ++ drop (marks s) W = e ∙ cleared_within 0 (marks s) W room in
      let zeros : (k : ℕ) → k < marks s → get_or w k 0 ≡ 0 =
      λ k h.
      ap (λ (l : List ℕ). get_or l k 0) is
      ∙ get_or-append (replicate (marks s) 0) (drop (marks s) W) 0 k (rw (length-replicate {A = ℕ} (marks s) 0) h)
      ∙ get_or-replicate {A = ℕ} (marks s) k 0 0 h in
      record {
        long = ap length is ∙ length-append (replicate (marks s) 0) (drop (marks s) W) ∙ omega (arith, length-replicate {A = ℕ} (marks s) 0, length-drop (marks s) W);
        whole = refl;
        open_pairs = λ m h.
            let p : m.spot < marks s = omega (arith, spot_in s m h) in
            let q : s.np + m.prediction < marks s = omega (arith, h.prediction) in
            rw (zeros m.spot p, zeros (s.np + m.prediction) q, none_free m) refl;
        stands = ap (drop (marks s)) is ∙ drop_at (replicate (marks s) 0) (drop (marks s) W) (marks s) (length-replicate (marks s) 0);
        spots_left = omega (arith, left_most (gone w) s.np);
        predictions_left = omega (arith, left_most (λ j. gone w (s.np + j)) (predictions s));
      }

  module _ (taken : List Match) (w : List ℕ) (o : Holding taken w) where
    taken_free : (m : Match) → Near (frame_of s) m → free s w m ≡ true → clash share m taken ≡ false
    taken_free m h e = not-true _ (sym (o.open_pairs m h) ∙ e)

    free_taken : (m : Match) → Near (frame_of s) m → clash share m taken ≡ false → Takeable s w m
    free_taken m h e = record { near = h; free = o.open_pairs m h ∙ not_from_false _ e }

    -- what a scan finds is the closest pair that is free
    hold_first : (n : Found) → FirstOf (frame_of s) (Takeable s w) n → FirstFree (frame_of s) taken (match_at n)
    hold_first n b = record {
      near = b.among.near;
      free = taken_free (match_at n) b.among.near b.among.free;
      first = λ m h e. rw (← b.distance) (b.first m (free_taken m h e));
    }

    kept : (w' : List ℕ) → Sifted s w w' → (m : Match) → Near (frame_of s) m → free s w m ≡ true → free s w' m ≡ true
    kept w' f m h e = f.free m (record { near = h; free = e })

    -- a scan leaves what is free
    hold_sifted : (w' : List ℕ) → Sifted s w w' → Holding taken w'
    unfolding free
    hold_sifted w' f = record {
      long = f.behind.long ∙ o.long;
      whole = o.whole;
      open_pairs = λ m h.
          grind (arith, o.open_pairs m h, spot_in s m h, h.prediction, kept w' f m h, f.gone m.spot, f.gone (s.np + m.prediction));
      stands = f.behind.beyond ∙ o.stands;
      spots_left = omega (arith, o.spots_left, left_fewer (gone w) (gone w') s.np (λ i u. f.gone i (omega arith)));
      predictions_left =
          omega (
            arith,
            o.predictions_left,
            left_fewer (λ j. gone w (s.np + j)) (λ j. gone w' (s.np + j)) (predictions s) (λ j u. f.gone (s.np + j) (omega arith)),
          );
    }

    -- a scan finds nothing: all matches were taken
    pub hold_all : ((m : Match) → Takeable s w m → ⊥) → (w' : List ℕ) → Sifted s w w' → Took s W (length taken) w'
    hold_all none w' f =
        let over = ended (frame_of s) taken (λ m h. clashes m h (clash share m taken) refl) in
        let all : matches ≡ reverse taken = o.whole ∙ ap (λ (l : List Match). reverse taken ++ l) over ∙ append-nil (reverse taken) in
        record {
          count = sym (ap length all ∙ length-reverse taken);
          matches = f.behind.beyond ∙ o.stands ∙ ap₂ (λ (l : List Match) (r : List ℕ). flat l ++ r) (sym all) (drop-drop (2 * length taken) (marks s) W);
        }
      where
        clashes : (m : Match) → Near (frame_of s) m → (b : Bool) → clash share m taken ≡ b → clash share m taken ≡ true
        clashes m h true e = e
        clashes m h false e = absurd (none m (free_taken m h e))

    -- ---- one more

    module _ (room : marks s + 2 * min s.np (predictions s) ≤ length W) (m : Match) (h : FirstFree (frame_of s) taken m) where
      m_free : (gone w m.spot ≡ false) × (gone w (s.np + m.prediction) ≡ false)
      m_free = free_parts s w m (free_taken m h.near h.free).free

      m_in : (m.spot < s.np) × (m.prediction < predictions s)
      m_in = (spot_in s m h.near, h.near.prediction)

      abbrev at : ℕ
      at = marks s + 2 * length taken

      abbrev more : List ℕ
      more = with_one taken w m

      more_gone : (k : ℕ) → k < marks s → gone more k ≡ eqb k (s.np + m.prediction) || (eqb k m.spot || gone w k)
      more_gone k u =
          let a = set w m.spot 1 in
          let long : m.spot < length w = omega (arith, m_in.0, o.long, room) in
          let long' : s.np + m.prediction < length a = omega (arith, m_in.1, o.long, room, length-set w m.spot 1) in
          grind (arith, common_steps, put_gone a (s.np + m.prediction) k long', put_gone w m.spot k long)

      spot_gone : (k : ℕ) → k < s.np → gone more k ≡ eqb k m.spot || gone w k
      spot_gone k u = grind (arith, common_steps, more_gone k)

      prediction_gone : (j : ℕ) → j < predictions s → gone more (s.np + j) ≡ eqb j m.prediction || gone w (s.np + j)
      prediction_gone j u = grind (arith, common_steps, more_gone (s.np + j), m_in.0)

      more_open : (n : Match) → Near (frame_of s) n → free s more n ≡ not (clash share n (m ∷ taken))
      unfolding free
      more_open n k =
          grind (
            arith,
            spot_gone n.spot (spot_in s n k),
            prediction_gone n.prediction k.prediction,
            clash_more n m taken,
            o.open_pairs n k,
          )

      fewer_spots : left (gone more) s.np < left (gone w) s.np
      fewer_spots =
          left_one (gone w) (gone more) s.np (λ i u g. grind (arith, spot_gone i u)) m.spot m_in.0 m_free.0
          (grind (arith, common_steps, spot_gone m.spot m_in.0))

      fewer_predictions : left (λ j. gone more (s.np + j)) (predictions s) < left (λ j. gone w (s.np + j)) (predictions s)
      fewer_predictions =
          left_one (λ j. gone w (s.np + j)) (λ j. gone more (s.np + j)) (predictions s) (λ j u g. grind (arith, prediction_gone j u)) m.prediction m_in.1 m_free.1
          (grind (arith, common_steps, prediction_gone m.prediction m_in.1))

      -- there are spots and predictions left, and so places
      hold_left : (length taken < s.np) × (length taken < predictions s)
      hold_left = (omega (arith, fewer_spots, o.spots_left), omega (arith, fewer_predictions, o.predictions_left))

      hold_room : at + 1 < length w
      hold_room = two_fit s.np (predictions s) (length taken) (length w) hold_left.0 hold_left.1 (rw o.long room)
        where
          two_fit : (a b t l : ℕ) → t < a → t < b → a + b + 2 * min a b ≤ l → a + b + 2 * t + 1 < l
          two_fit a b t l u v q = omega arith

      more_stands : drop (marks s) more ≡ flat (reverse (m ∷ taken)) ++ drop (2 * length (m ∷ taken)) (drop (marks s) W)
      unfolding flat
      more_stands =
          let t = 2 * length taken in
          let a = set w m.spot 1 in
          let b = set a (s.np + m.prediction) 1 in
          let D = drop (marks s) W in
          let e : at + 1 ≡ marks s + (t + 1) = omega arith in
          let twice : t + 2 ≡ 2 * length (m ∷ taken) = omega arith in
          let base : drop (marks s) b ≡ flat (reverse taken) ++ drop t D =
          drop-set-lt (marks s) a (s.np + m.prediction) 1 (omega (arith, m_in.1)) ∙ drop-set-lt (marks s) w m.spot 1 (omega (arith, m_in.0)) ∙ o.stands in
          let long : length (flat (reverse taken)) ≡ t = flat_many (reverse taken) ∙ ap (λ (k : ℕ). 2 * k) (length-reverse taken) in
          let fits : t + 1 < length D = omega (arith, hold_room, o.long, length-drop (marks s) W) in
          ap (λ (k : ℕ). drop (marks s) (set (set b at m.spot) k m.prediction)) e
          ∙ drop-set-add (marks s) (set b at m.spot) (t + 1) m.prediction
          ∙ ap (λ (l : List ℕ). set l (t + 1) m.prediction) (drop-set-add (marks s) b t m.spot ∙ ap (λ (l : List ℕ). set l t m.spot) base)
          ∙ grow_two (flat (reverse taken)) D t m.spot m.prediction long fits
          ∙ ap₂ (λ (l : List ℕ) (k : ℕ). l ++ drop k D) (sym (ap flat (last m taken) ∙ flat_append (reverse taken) (m ∷ []))) twice

      hold_more : Holding (m ∷ taken) more
      hold_more = record {
        long = rw (length-set, length-set, length-set, length-set) o.long;
        whole =
            o.whole
            ∙ ap (λ (l : List Match). reverse taken ++ l) (begins (frame_of s) taken m h)
            ∙ sym (append_assoc (reverse taken) (m ∷ []) (assigned (m ∷ taken) (in_order (frame_of s))))
            ∙ ap (λ (l : List Match). l ++ assigned (m ∷ taken) (in_order (frame_of s))) (sym (last m taken));
        open_pairs = more_open;
        stands = more_stands;
        spots_left = omega (arith, fewer_spots, o.spots_left);
        predictions_left = omega (arith, fewer_predictions, o.predictions_left);
      }

  -- a turn: what a scan finds is taken
  module _ (taken : List Match) (w : List ℕ) (o : Holding taken w) (room : marks s + 2 * min s.np (predictions s) ≤ length W)
      (n : Found) (w' : List ℕ) (found : FirstOf (frame_of s) (Takeable s w) n × Sifted s w w') where
    after : Holding taken w'
    after = hold_sifted taken w o w' found.1

    first : FirstFree (frame_of s) taken (match_at n)
    first = hold_first taken w o n found.0

    pub turn_left : length taken < s.np
    turn_left = (hold_left taken w' after room (match_at n) first).0

    pub turn_fits : (n.spot < s.np) × (n.prediction < predictions s) × (marks s + 2 * length taken + 1 < length w')
    turn_fits = (spot_in s (match_at n) first.near, first.near.prediction, hold_room taken w' after room (match_at n) first)

    pub turn_more : Holding (match_at n ∷ taken) (with_one taken w' (match_at n))
    turn_more = hold_more taken w' after room (match_at n) first
