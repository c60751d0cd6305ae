-- Boxes that are added one after another.
use Rattle.std.proofs.Common.{◌≡◌, ℕ, ◌+◌, List, [], ◌∷◌, ◌++◌, map, sym, refl, ap, ◌∙◌, add-one}
use Rattle.std.proofs.lemmas.List.{map_push}
use Rattle.messages.specs.declared.yard.Yard.{Yard}
use Rattle.world.specs.declared.station.Station as held
use Rattle.world.specs.Station.{fresh_station, station_of}
use Rattle.world.specs.World.{box_at, fresh_stations}

fresh_more : (y : Yard) (n : ℕ) → fresh_stations y (n + 1) ≡ fresh_stations y n ++ fresh_station y (box_at n) ∷ []
unfolding fresh_stations
fresh_more y n = rw (add-one n) refl

pub none_fresh : (y : Yard) → fresh_stations y 0 ≡ []
unfolding fresh_stations
none_fresh y = refl

pub station_more : (y : Yard) (n : ℕ) (xs ys : List held.Station) (x : held.Station) → map station_of xs ≡ fresh_stations y n → ys ≡ xs ++ x ∷ []
    → station_of x ≡ fresh_station y (box_at n) → map station_of ys ≡ fresh_stations y (n + 1)
station_more y n xs ys x p q r =
    ap (map station_of) q ∙ (map_push station_of xs x ∙ (ap (λ s. s ++ station_of x ∷ []) p ∙ (ap (λ s. fresh_stations y n ++ s ∷ []) r ∙ sym (fresh_more y n))))
