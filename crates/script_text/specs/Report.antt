-- The lines of reports, over what they tell. Each has its line feed. This project's own format.
use Rattle.std.specs.Prelude.{ℕ, ◌-◌, ◌==◌, if◌then◌else◌, List, [], ◌∷◌, ◌++◌, length, map, codes, Option, Some, None}
use Rattle.std.specs.Fmt.{decimal}
use Rattle.std.specs.List.{join_with_byte, flat_map}
use Rattle.hex.specs.Hex.{encode_lower}
use Rattle.apf_coding.specs.Verdicts.{verdict_word}
use Rattle.data_counters.specs.declared.counter.Counter.{Counter}
use Rattle.data_counters.specs.Counters.{name_of, all_counters}
use Rattle.data_counters.specs.Memory.{value_of}
use Rattle.ra_records.specs.declared.span.RaError.{RaError}
use Rattle.ra_records.specs.declared.span.RaError.TheVariants as refusals
use Rattle.ra_records.specs.declared.replies.RaReply.{RaReply}
use Rattle.ra_records.specs.declared.replies.RaReply.TheVariants as replies
use Rattle.policy_state.specs.declared.update.StateError.{StateError}
use Rattle.policy_state.specs.declared.update.StateError.TheVariants.{Prefix, SlotRange, SlotInUse, SlotEmpty}
use Rattle.policy_state.specs.declared.basis.Answer.{Answer}
use Rattle.policy_state.specs.declared.basis.UpdateReply.{UpdateReply}
use Rattle.policy_state.specs.declared.basis.UpdateReply.TheVariants as updates

-- ---- installs

-- the numbers of records that were left out, with commas between them, or `none`
unfoldable pub left_word : List ℕ → List ℕ
left_word [] = codes "none"
left_word (id ∷ ids) = join_with_byte 44 (map decimal (id ∷ ids))

-- an install: its number, its second, the bytes of its code, the records left out, and the code
unfoldable pub gen_line : ℕ → ℕ → List ℕ → List ℕ → List ℕ
gen_line number at left code =
    codes "gen " ++ decimal number ++ codes " at " ++ decimal at ++ codes " size " ++ decimal (length code)
    ++ codes " left " ++ left_word left ++ codes " code " ++ encode_lower code ++ codes "\n"

-- ---- updates that install nothing

-- why a state refused an update
unfoldable pub refusal_words : StateError → List ℕ
refusal_words (Prefix n) = codes "prefix " ++ decimal n
refusal_words (SlotRange n) = codes "slot-range " ++ decimal n
refusal_words (SlotInUse n) = codes "slot-in-use " ++ decimal n
refusal_words (SlotEmpty n) = codes "slot-empty " ++ decimal n

-- an update that the state refused
unfoldable pub refused_line : ℕ → StateError → List ℕ
refused_line at e = codes "refused at " ++ decimal at ++ codes " " ++ refusal_words e ++ codes "\n"

-- an update whose program would not fit
unfoldable pub kept_line : ℕ → ℕ → ℕ → List ℕ
kept_line at need limit = codes "kept at " ++ decimal at ++ codes " need " ++ decimal need ++ codes " limit " ++ decimal limit ++ codes "\n"

-- An install has its `gen` line and none of these.
abbrev pub update_line : UpdateReply → ℕ → List ℕ
update_line updates.Installed at = []
update_line updates.Same at = codes "same at " ++ decimal at ++ codes "\n"
update_line (updates.Refused e) at = refused_line at e
update_line (updates.NotInstalled need limit) at = kept_line at need limit

-- ---- frames

-- the counter's name, or `none`
unfoldable pub counter_word : Option Counter → List ℕ
counter_word None = codes "none"
counter_word (Some c) = name_of c

-- the lane that answered, where there are lanes
unfoldable pub lane_words : Option ℕ → List ℕ
lane_words None = []
lane_words (Some lane) = codes " lane " ++ decimal lane

-- the answer to frame k
unfoldable pub frame_line : ℕ → Option ℕ → Answer → List ℕ
frame_line k lane a =
    codes "frame " ++ decimal k ++ lane_words lane ++ codes " gen " ++ decimal a.number ++ codes " age " ++ decimal a.age
    ++ codes " " ++ verdict_word a.verdict ++ codes " " ++ counter_word a.counter ++ codes " steps " ++ decimal a.steps ++ codes "\n"

-- ---- advertisements

-- A frame that is no advertisement is never read as one, and want of memory has no line.
unfoldable pub bad_words : RaError → List ℕ
bad_words refusals.NotRa = []
bad_words refusals.Short = codes "bad short"
bad_words refusals.TooLong = codes "bad too-long"
bad_words (refusals.CutOption at) = codes "bad cut-option " ++ decimal at
bad_words (refusals.ZeroOption at) = codes "bad zero-option " ++ decimal at
bad_words (refusals.ShortOption at) = codes "bad short-option " ++ decimal at
bad_words refusals.OutOfMemory = []

-- what came of an advertisement
unfoldable pub reply_words : RaReply → List ℕ
reply_words (replies.Match id) = codes "match " ++ decimal id
reply_words (replies.Refreshed id) = codes "refreshed " ++ decimal id
reply_words (replies.New id) = codes "new " ++ decimal id
reply_words replies.Full = codes "full"
reply_words replies.ZeroLifetime = codes "zero"
reply_words (replies.Bad e) = bad_words e

-- what came of the advertisement in frame k
unfoldable pub ra_line : ℕ → RaReply → List ℕ
ra_line k r = codes "ra " ++ decimal k ++ codes " " ++ reply_words r ++ codes "\n"

-- ---- totals

-- a counter and what it holds
abbrev pub counted_line : Counter → ℕ → List ℕ
counted_line c n = codes "counter " ++ name_of c ++ codes " " ++ decimal n ++ codes "\n"

-- that of a counter that isn't 0
unfoldable pub counter_line : List ℕ → Counter → List ℕ
counter_line memory c = if value_of c memory == 0 then [] else counted_line c (value_of c memory)

-- the counters by their numbers
unfoldable pub counter_lines : List ℕ → List ℕ
counter_lines memory = flat_map (counter_line memory) all_counters

-- the frames, those that passed and those that were dropped, and the programs
unfoldable pub total_line : ℕ → ℕ → ℕ → List ℕ
total_line frames passed programs =
    codes "total frames " ++ decimal frames ++ codes " passed " ++ decimal passed ++ codes " dropped " ++ decimal (frames - passed)
    ++ codes " programs " ++ decimal programs ++ codes "\n"

-- the last lines of a report
abbrev pub totals_lines : List ℕ → ℕ → ℕ → ℕ → List ℕ
totals_lines memory frames passed programs = counter_lines memory ++ total_line frames passed programs
