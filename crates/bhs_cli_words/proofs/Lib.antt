mod CommaLemmas
mod WordLemmas
mod AnswerLemmas
mod NumberLemmas
mod FoundLemmas
mod ToldLemmas
mod ReadLemmas
mod ServeLemmas
