-- What the writers of lines ask and give. Assumes nothing.
use Rattle.std.specs.Prelude.{◌≤◌, Option, None, Some}
use Rattle.landlord.specs.Figures.{Standing}
use Rattle.report_lines.specs.declared.Rival.{Rival}

-- What the report asks of a rival: a plan of 1 to k blocks, and a cost with which both sides of the bound fit their words.
abbrev pub RivalOk : Standing → Option Rival → Type 0
RivalOk v None = Unit {0}
RivalOk v (Some plan) = (1 ≤ plan.blocks) × (plan.blocks ≤ v.k) × (plan.cost ≤ 1000000000000)
