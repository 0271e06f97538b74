mod ReportLemmas
mod TurnLemmas
mod LineLemmas
