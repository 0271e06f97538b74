mod StatesLemmas
