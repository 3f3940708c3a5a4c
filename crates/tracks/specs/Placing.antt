-- Document 01, "Placing", and document 02, "Drives with tracks": where the sectors of a commit go.
use Rattle.std.specs.Prelude.{ℕ, zero, suc, ◌+◌, ◌*◌, ◌-◌, ◌/◌, ◌%◌, Bool, cond, not, ◌&&◌, ◌||◌, eqb, ltb}
use Rattle.geometry.specs.declared.Drive.{Drive}

-- What a search for a free sector gives: the sector, and the sectors skipped before the head is there.
pub record Found : Type 0 where
  pub sector : ℕ
  pub skipped : ℕ

-- A choice of place: how a free sector is found, of N sectors, by the used map, from a start; and where the search after it starts.
pub record Choice : Type 0 where
  pub choose : ℕ → (ℕ → Bool) → ℕ → Found
  pub next : ℕ → ℕ → ℕ

-- Tracks hold consecutive sectors, from sector 0 on.
abbrev pub track_of : Drive → ℕ → ℕ
track_of d k = k / d.sectors

abbrev pub position_of : Drive → ℕ → ℕ
position_of d k = k % d.sectors

-- The smallest wait of at least `least` until a position comes under the head, which stands at `from`: after `least` the head is
-- at from + least, and then the track turns on to the position. Time runs one position a sector.
abbrev pub wait_for : ℕ → ℕ → ℕ → ℕ → ℕ
wait_for per_track least from position = least + (position + (per_track - (from + least) % per_track)) % per_track

-- The delay from a start to a sector: a wait of at least the head switch, or of at least 0 on the same track.
abbrev pub delay : Drive → ℕ → ℕ → ℕ
delay d start k =
    let least = cond (eqb (track_of d k) (track_of d start)) 0 d.switch in
    wait_for d.sectors least (position_of d start) (position_of d k)

-- The free sector of least delay below a bound, the lower of two that tie; sector 0, which is always used, where none is free.
unfoldable pub nearest : (ℕ → ℕ) → (ℕ → Bool) → ℕ → ℕ
nearest wait is_used zero = 0
nearest wait is_used (suc k) =
    let before = nearest wait is_used k in
    cond (not (is_used k) && (is_used before || ltb (wait k) (wait before))) k before

-- One position after a sector, on its track: after the last position comes position 0.
abbrev pub position_after : Drive → ℕ → ℕ
position_after d k = track_of d k * d.sectors + suc (position_of d k) % d.sectors

abbrev pub least_delay : Drive → Choice
least_delay d =
    record {
      choose = λ n is_used start.
          let k = nearest (delay d start) is_used n in
          record { sector = k; skipped = delay d start k };
      next = λ n k. position_after d k;
    }

-- How far the placing of a commit has come: what is no longer free, where the next search starts, and the sum of the delays so
-- far. Nothing superseded in the commit becomes free in it.
pub record Placing : Type 0 where
  pub is_used : ℕ → Bool
  pub start : ℕ
  pub skipped : ℕ

abbrev pub chosen : Choice → ℕ → Placing → Found
chosen choice n s = choice.choose n s.is_used s.start

-- After j sectors were taken.
unfoldable pub placed_up_to : Choice → ℕ → (ℕ → Bool) → ℕ → ℕ → Placing
placed_up_to choice n is_used head zero = record { is_used = is_used; start = head; skipped = 0 }
placed_up_to choice n is_used head (suc j) =
    let before = placed_up_to choice n is_used head j in
    let found = chosen choice n before in
    record {
      is_used = λ q. before.is_used q || eqb q found.sector;
      start = choice.next n found.sector;
      skipped = before.skipped + found.skipped;
    }

-- The sector that a commit takes as its j-th, from 0.
unfoldable pub place_of : Choice → ℕ → (ℕ → Bool) → ℕ → ℕ → ℕ
place_of choice n is_used head j = (chosen choice n (placed_up_to choice n is_used head j)).sector

-- The sum of the delays to its first j sectors.
unfoldable pub skipped_by : Choice → ℕ → (ℕ → Bool) → ℕ → ℕ → ℕ
skipped_by choice n is_used head j = (placed_up_to choice n is_used head j).skipped
