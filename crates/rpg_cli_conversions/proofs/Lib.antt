mod SeenLemmas
