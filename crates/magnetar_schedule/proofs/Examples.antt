-- Labels and schedules, computed from the definitions.
-- Assumes nothing.
use mathlib.Core.Path.{◌≡◌, refl}
use mathlib.Core.List.{List, [], ◌∷◌}
use lib.ListN.{length, take, drop}
use Rattle.magnetar_field.specs.Sizes.{log₂, halvings}
use Rattle.magnetar_hash.specs.Bytes.{ascii}
use Rattle.magnetar_schedule.specs.Schedule.{Event, absorb, draw, decimal, numbered, rounds, singles, schedule}
use Rattle.magnetar_protocol.specs.Shape.{sizes_only}

-- ---- labels
digits-0 : decimal 20 0 ≡ ascii "0"
unfolding decimal ascii
digits-0 = refl

digits-9 : decimal 20 9 ≡ ascii "9"
unfolding decimal ascii
digits-9 = refl

digits-10 : decimal 20 10 ≡ ascii "10"
unfolding decimal ascii
digits-10 = refl

digits-63 : decimal 20 63 ≡ ascii "63"
unfolding decimal ascii
digits-63 = refl

digits-4095 : decimal 20 4095 ≡ ascii "4095"
unfolding decimal ascii
digits-4095 = refl

-- the greatest number of 64 bits has all twenty
digits-most : decimal 20 18446744073709551615 ≡ ascii "18446744073709551615"
unfolding decimal ascii
digits-most = refl

label : numbered "vs-out-shared-" 12 ≡ ascii "vs-out-shared-12"
unfolding numbered decimal ascii
label = refl

-- ---- a schedule: m = 8, q = 4, 2 rows in bin and 1 in fld, 3 segments
abbrev events : List Event
events = schedule (sizes_only 8 4 2 1 (1 ∷ 1 ∷ 2 ∷ []))

-- 3 and 2 draws of tau, 2 shared rounds, 1 row round, 6 terminals, 6 alphas, 3 inner rounds, the value of z, 3 segments
count : length events ≡ 33
unfolding schedule rounds singles log₂ halvings
count = refl

-- the shared rounds begin after the draws of tau: message, challenge, message
shared
    : take 3 (drop 5 events)
    ≡ absorb (ascii "vs-out-shared-0") 0 8 ∷ draw (ascii "vs-out-shared-0") ∷ absorb (ascii "vs-out-shared-1") 8 8 ∷ []
unfolding schedule rounds singles log₂ halvings numbered decimal ascii
shared = refl

-- the last of all is the last segment, at the last of the proof's 39 elements
last : drop 32 events ≡ absorb (ascii "vs-seg-2") 38 1 ∷ []
unfolding schedule rounds singles log₂ halvings numbered decimal ascii
last = refl
