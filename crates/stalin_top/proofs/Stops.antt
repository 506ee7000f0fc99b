-- What an answer before a source is built or analysed says of the text that it is an answer to.
use Rattle.std.proofs.Common.{ℕ, ◌<◌, ◌≤◌, ◌^◌, ◌⊎◌, length, arith, ◌≡◌, ◌≢◌, refl, sym, ap, subst, List, Option, Some, inl, inr}
use Rattle.stalin_outside.specs.Shelf.{Files}
use Rattle.image_build.specs.declared.error.BuildErr.{BuildErr}
use Rattle.image_build.specs.declared.error.BuildErr.TheVariants as build
use Rattle.stalin_top.specs.declared.answer.Answer.{Answer}
use Rattle.stalin_top.specs.declared.answer.Answer.TheVariants.{Refused, TooLarge, FileFault, NoMemory}
use Rattle.stalin_top.specs.declared.answer.Refusal.TheVariants as refusals
use Rattle.stalin_top.specs.Answer.{Yields}
use Rattle.stalin_top.specs.Source.{IsSource, IsUnread, Refusals, StopsBy, answer_to, source_limit}

cause : (Refuses : Refusals) (files : Option Files) (source text : List ℕ) (error : BuildErr) → IsSource files source text
    → Refuses text error → StopsBy Refuses files source (answer_to error)
cause Refuses files source text (build.Read e) held refuses = record { text = text; held = held; refuses = refuses }
cause Refuses files source text (build.Form e) held refuses = record { text = text; held = held; refuses = refuses }
cause Refuses files source text (build.Limit l) held refuses = inr (record { text = text; held = held; refuses = refuses })
cause Refuses files source text build.NoMemory held refuses = tt

-- a source that is not read whole has an answer too
pub unread : (Refuses : Refusals) (files : Option Files) (source : List ℕ) (answer : Answer) → IsUnread files source answer
    → StopsBy Refuses files source answer
unread Refuses files source (TooLarge limit) long = inl long
unread Refuses files source FileFault failed = tt
unread Refuses files source NoMemory wanting = tt
unread Refuses files source answer stops = absurd stops

-- the answer to a source that is refused has its cause
pub stops_by : (Refuses : Refusals) (files : Option Files) (source text : List ℕ) (error : BuildErr) (answer : Answer)
    → IsSource files source text → Refuses text error → answer ≡ answer_to error → StopsBy Refuses files source answer
stops_by Refuses files source text error answer held refuses told =
    let P : Answer → Type 0 = λ a. StopsBy Refuses files source a in
    subst P (sym told) (cause Refuses files source text error held refuses)

same_text : (file : Option (List ℕ)) (a b : List ℕ) → file ≡ Some a → file ≡ Some b → b ≡ a
same_text file a b one two = cc

-- to a text of this length, which some file holds, another answer comes than to one that is too long
not_long : (file : Option (List ℕ)) (text long : List ℕ) → file ≡ Some text → length text ≤ 2 ^ 20 → file ≡ Some long
    → 2 ^ 20 < length long → ⊥
not_long file text long one short two more =
    let e : length long ≡ length text = ap length (same_text file text long one two) in omega arith

-- a text without a reason to refuse it is not refused
no_reason : (Refuses : Refusals) (files : Files) (source text other : List ℕ) (error : BuildErr) → error ≢ build.NoMemory
    → IsSource (Some files) source text → IsSource (Some files) source other → Refuses other error
    → ((error : BuildErr) → error ≢ build.NoMemory → ¬ Refuses text error) → ⊥
no_reason Refuses files source text other error some one two refuses none =
    none error some (subst (λ t. Refuses t error) (same_text (files source) text other one.0 two.0) refuses)

pub stop_complete : (Refuses : Refusals) (files : Files) (source text : List ℕ) (answer : Answer) → StopsBy Refuses (Some files) source answer
    → IsSource (Some files) source text → ((error : BuildErr) → error ≢ build.NoMemory → ¬ Refuses text error)
    → (answer ≡ FileFault) ⊎ (answer ≡ NoMemory)
stop_complete Refuses files source text (Refused (refusals.Read e)) stops there none =
    absurd (no_reason Refuses files source text stops.text (build.Read e) (λ is. cc) there stops.held stops.refuses none)
stop_complete Refuses files source text (Refused (refusals.Form e)) stops there none =
    absurd (no_reason Refuses files source text stops.text (build.Form e) (λ is. cc) there stops.held stops.refuses none)
stop_complete Refuses files source text (TooLarge limit) (inl long) there none =
    absurd (not_long (files source) text long.0.0 there.0 there.1 long.0.1 long.0.2)
stop_complete Refuses files source text (TooLarge limit) (inr stops) there none =
    absurd (no_reason Refuses files source text stops.text (build.Limit limit) (λ is. cc) there stops.held stops.refuses none)
stop_complete Refuses files source text FileFault stops there none = inl refl
stop_complete Refuses files source text NoMemory stops there none = inr refl
stop_complete Refuses files source text answer stops there none = absurd stops

pub no_long : (files : Files) (source text long : List ℕ) → IsSource (Some files) source text → files source ≡ Some long
    → 2 ^ 20 < length long → ⊥
no_long files source text long there held more = not_long (files source) text long there.0 there.1 held more

pub stop_limited : (Refuses : Refusals) (files : Files) (source long : List ℕ) (answer : Answer) → StopsBy Refuses (Some files) source answer
    → files source ≡ Some long → 2 ^ 20 < length long → Yields (TooLarge source_limit) answer
stop_limited Refuses files source long (Refused (refusals.Read e)) stops held more =
    absurd (no_long files source stops.text long stops.held held more)
stop_limited Refuses files source long (Refused (refusals.Form e)) stops held more =
    absurd (no_long files source stops.text long stops.held held more)
stop_limited Refuses files source long (TooLarge limit) (inl is) held more = inl (ap TooLarge is.1)
stop_limited Refuses files source long (TooLarge limit) (inr stops) held more =
    absurd (no_long files source stops.text long stops.held held more)
stop_limited Refuses files source long FileFault stops held more = inr (inl refl)
stop_limited Refuses files source long NoMemory stops held more = inr (inr refl)
stop_limited Refuses files source long answer stops held more = absurd stops
